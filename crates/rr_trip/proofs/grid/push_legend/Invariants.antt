use Rattle.std.proofs.Common.{◌≡◌, ◌++◌}
use Rattle.rr_trip.specs.Grid.{legend_text}
use Rattle.rr_trip.proofs.grid.push_legend.Given as goal

-- the lines of the days so far are put
abbrev pub invariant-loop-i : goal.invariant-loop-i
invariant-loop-i g l =
    l.out.items ≡ l.fn.out.items ++ legend_text l.usual (g.A.DaySeq.sketch l.a) (g.B.DaySeq.sketch l.b) l.first l.i
