use Rattle.std.proofs.Common.{arith, to_z-of_z}
use Rattle.std.proofs.lemmas.Grind.{common_steps}
use Rattle.rr_answer.proofs.LineLemmas.{date_and_end}
use Rattle.rr_answer.proofs.listing.push_line.Goals as goal

pub returns : goal.returns
returns c =
    rw (date_and_end c.args.kind c.args.day c.args.second c.requires.of_day) (grind (arith, common_steps, c.in_ok-push_extended_date.ensures.ok, to_z-of_z c.ranges.day))
