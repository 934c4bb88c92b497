use Rattle.std.proofs.Common.{◌≡◌, []}
use Rattle.rr_trip.specs.Grid.{usual_times}
use Rattle.rr_trip.proofs.grid.usual_times.Given as goal

-- no day so far has times
abbrev pub invariant-loop-i : goal.invariant-loop-i
invariant-loop-i g l = usual_times (g.A.DaySeq.sketch l.a) (g.B.DaySeq.sketch l.b) l.first l.i ≡ []
