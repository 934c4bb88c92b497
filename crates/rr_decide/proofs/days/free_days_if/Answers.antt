use Rattle.std.proofs.Common.{w64}
use Rattle.std.proofs.lemmas.Int.{to_z-of_z}
use Rattle.rr_decide.proofs.days.free_days_if.Goals as goal

pub returns-then-asked : goal.returns-then-asked
returns-then-asked g c = rw (to_z-of_z w64 c.args.day c.ranges.day) at c.free_days.ensures
