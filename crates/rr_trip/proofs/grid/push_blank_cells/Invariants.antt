use Rattle.std.proofs.Common.{◌≡◌, ◌++◌}
use Rattle.rr_trip.specs.Grid.{blank_cells}
use Rattle.rr_trip.proofs.grid.push_blank_cells.Given as goal

-- so many are put
abbrev pub invariant-loop : goal.invariant-loop
invariant-loop l = l.out.items ≡ l.fn.out.items ++ blank_cells l.counter
