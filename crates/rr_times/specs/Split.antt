-- An index in a list of seconds.
use Rattle.std.specs.Prelude.{ℕ, ◌<◌, ◌≤◌, List, length, slice_index}

-- the seconds before the index are below the bound, and the others are not
pub record SplitsAt (xs : List ℕ) (index bound : ℕ) : Type 0 where
  pub within : index ≤ length xs
  pub below : (k : ℕ) → k < index → slice_index xs k < bound
  pub from : (k : ℕ) → index ≤ k → k < length xs → bound ≤ slice_index xs k
