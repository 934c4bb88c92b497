use Rattle.std.proofs.Common.{◌≡◌, ◌++◌, drop}
use Rattle.rr_expand.specs.Spread.{of_hour}
use Rattle.rr_expand.proofs.spread.push_hour.Given as goal

abbrev pub invariant-loop-minute : goal.invariant-loop-minute
invariant-loop-minute l = l.out.items ++ of_hour l.base (drop l.minute-index l.minutes) l.seconds ≡ l.fn.out.items ++ of_hour l.base l.minutes l.seconds
