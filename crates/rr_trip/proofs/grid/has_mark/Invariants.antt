use Rattle.std.proofs.Common.{◌≡◌}
use Rattle.rr_trip.specs.Grid.{has_mark}
use Rattle.rr_trip.proofs.grid.has_mark.Given as goal

-- the days so far are looked at
abbrev pub invariant-loop-i : goal.invariant-loop-i
invariant-loop-i g l = l.marked ≡ has_mark (g.A.DaySeq.sketch l.a) (g.B.DaySeq.sketch l.b) l.first l.i
