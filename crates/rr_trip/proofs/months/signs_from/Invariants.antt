use Rattle.std.proofs.Common.{◌≡◌}
use Rattle.rr_trip.specs.Details.{signs_from}
use Rattle.rr_trip.proofs.months.signs_from.Given as goal

-- the days so far have their signs
abbrev pub invariant-loop-i : goal.invariant-loop-i
invariant-loop-i g l = l.signs.items ≡ signs_from (g.A.DaySeq.sketch l.a) (g.B.DaySeq.sketch l.b) l.first l.i
