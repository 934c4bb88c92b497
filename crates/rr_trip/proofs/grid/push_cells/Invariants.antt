use Rattle.std.proofs.Common.{◌≡◌, ◌++◌}
use Rattle.rr_trip.specs.Grid.{cells_text}
use Rattle.rr_trip.proofs.grid.push_cells.Given as goal

-- the days so far are painted
abbrev pub invariant-loop-i : goal.invariant-loop-i
invariant-loop-i g l =
    l.out.items ≡ l.fn.out.items ++ cells_text (g.A.DaySeq.sketch l.a) (g.B.DaySeq.sketch l.b) l.first l.i
