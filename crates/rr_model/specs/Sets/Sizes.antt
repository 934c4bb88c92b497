-- How many seconds distinct time sets have together.
use Rattle.std.specs.Prelude.{ℕ, List, length, sum_by}

-- the sum of the sets' sizes
abbrev pub total_size : List (List ℕ) → ℕ
total_size sets = sum_by length sets
