use Rattle.std.proofs.Common.{◌≡◌, ◌++◌, drop}
use Rattle.rr_expand.specs.Spread.{of_day}
use Rattle.rr_expand.proofs.spread.push_hours.Given as goal

abbrev pub invariant-loop-hour : goal.invariant-loop-hour
invariant-loop-hour l = l.out.items ++ of_day (drop l.hour-index l.hours) l.minutes l.seconds ≡ l.fn.out.items ++ of_day l.hours l.minutes l.seconds
