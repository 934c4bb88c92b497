use Rattle.std.specs.Prelude.{◌≡◌, ◌++◌, drop}
use Rattle.rr_trip.specs.Grid.{time_list_text}
use Rattle.rr_trip.proofs.grid.push_time_list.Given as goal

-- the others are left
abbrev pub invariant-loop-second : goal.invariant-loop-second
invariant-loop-second l = l.out.items ++ time_list_text (drop l.second-index l.times) ≡ l.fn.out.items ++ time_list_text l.times
