use Rattle.std.proofs.Common.{w64}
use Rattle.std.proofs.lemmas.Int.{to_z-of_z}
use Rattle.rr_family.proofs.WalkLemmas.{free_row}
use Rattle.rr_family.proofs.window.free_days_from.Goals as goal

pub returns-clause-free : goal.returns-clause-free
returns-clause-free g c =
    free_row (g.A.DaySeq.sketch c.args.seq.now) c.args.day _ c.free_days.result c.clamp_from_one.result (to_z-of_z w64 c.args.day c.ranges.day) c.free_days.ensures
    c.clamp_from_one.ensures.number c.requires.free
