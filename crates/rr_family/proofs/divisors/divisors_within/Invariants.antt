use Rattle.std.proofs.Common.{◌≤◌, ◌-◌}
use Rattle.rr_family.specs.Divisors.{AreDivisors}
use Rattle.rr_family.specs.Lasting.{is_occupied}
use Rattle.rr_family.proofs.divisors.divisors_within.Given as goal

-- the divisors are those of the days that are read
abbrev pub invariant-loop-read : goal.invariant-loop-read
invariant-loop-read g l = (l.read ≤ l.days) × AreDivisors l.divisors (is_occupied (g.A.DaySeq.sketch l.seq)) l.first l.read

abbrev pub decreases-loop-read : goal.decreases-loop-read
decreases-loop-read g l = l.days - l.read
