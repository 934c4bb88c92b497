-- Numbers of any size beside the numbers of 64 bits that hold them.
use Rattle.std.specs.Prelude.{ℕ, ◌<◌, min, List, drop}
use Rattle.rr_model.specs.Text.Digits.{leading_digits}

-- the number is above the greatest of 64 bits
abbrev pub ExceedsU64 : ℕ → Type 0
ExceedsU64 n = 18_446_744_073_709_551_615 < n

-- the number, or the greatest of 64 bits if it is above that
abbrev pub saturated_u64 : ℕ → ℕ
saturated_u64 n = min n 18_446_744_073_709_551_615

-- the longest run of digits from an index on
abbrev pub digits_from : ℕ → List ℕ → List ℕ
digits_from index text = leading_digits (drop index text)
