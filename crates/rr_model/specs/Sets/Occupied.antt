-- The occupied days of a stretch.
use Rattle.std.specs.Prelude.{ℕ, zero, suc, List, [], ◌∷◌, ◌++◌, ℤ, pos, ◌+ℤ◌}
use Rattle.rr_model.specs.Sets.Sketch.{times_on}
use Rattle.rr_model.specs.declared.sketch.DayShape.{DayShape}
use Rattle.rr_model.specs.declared.sketch.Sketch.{Sketch}

-- the day with its seconds, if it has some
abbrev pub shape_if_some : ℤ → List ℕ → List DayShape
shape_if_some day [] = []
shape_if_some day (x ∷ xs) = record { day = day; times = x ∷ xs } ∷ []

-- the occupied ones of the n days from q on, in order
unfoldable pub day_shapes : Sketch → ℤ → ℕ → List DayShape
day_shapes s q zero = []
day_shapes s q (suc n) = day_shapes s q n ++ shape_if_some (q +ℤ pos n) (times_on s (q +ℤ pos n))
