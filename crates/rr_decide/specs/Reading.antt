-- In how many steps a verdict of equality is read. A step tells one day of one sequence, or a stretch of its days none of which
-- is occupied.
use Rattle.std.specs.Prelude.{◌≡◌, ◌⊎◌, ℕ, ◌+◌, ◌*◌, ◌≤◌, nat_abs, Some, ℤ, ◌-ℤ◌}
use Rattle.std.specs.Int.{int_min, int_max}
use Rattle.rr_model.specs.Sets.Sketch.{IsEmptySketch, IsFirstDay}
use Rattle.rr_model.specs.declared.sketch.Sketch.{Sketch}

-- how many days lie from this one to the greatest of it and both settled days
abbrev pub unsettled_days : Sketch → Sketch → ℤ → ℕ
unsettled_days s u m = nat_abs (int_max (int_max m s.settled) u.settled -ℤ m)

-- a step for each day from this one up to both periods past the later settled day, of both sequences
abbrev pub steps_from : Sketch → Sketch → ℤ → ℕ
steps_from s u m = 2 * (unsettled_days s u m + (s.period + u.period))

-- the lesser of the first occupied days
abbrev pub IsFirstOfBoth : Sketch → Sketch → ℤ → Type 0
IsFirstOfBoth s u m = (first other : ℤ) → IsFirstDay s (Some first) → IsFirstDay u (Some other) → m ≡ int_min first other

-- two steps at most if a set is empty, otherwise at most those from the lesser first occupied day on, and two more
pub record IsReadInFew (s u : Sketch) (steps : ℕ) : Type 0 where
  pub empty : IsEmptySketch s ⊎ IsEmptySketch u → steps ≤ 2
  pub some : (first other : ℤ) → IsFirstDay s (Some first) → IsFirstDay u (Some other) → steps ≤ steps_from s u (int_min first other) + 2
