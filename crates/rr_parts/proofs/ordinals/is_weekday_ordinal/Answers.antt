use Rattle.std.proofs.Common.{to_z-of_z}
use Rattle.rr_parts.proofs.RankLemmas.{rank_from_front_is, rank_from_back_is}
use Rattle.rr_parts.proofs.ordinals.is_weekday_ordinal.Goals as goal

pub returns : goal.returns
returns c d =
    rw (rank_from_front_is d c.args.k c.requires.first, rank_from_back_is d c.args.k c.args.many c.requires.within)
    (rw (to_z-of_z c.ranges.ordinal) at c.has_rank.ensures)
