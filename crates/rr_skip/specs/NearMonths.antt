-- Months by their numbers, which calls take.
use Rattle.std.specs.Prelude.{ℤ, pos, neg_ℤ, ◌≤ℤ◌}

-- a month within 10,000,000 of month 0, the January of the year 0
abbrev pub IsNearMonth : ℤ → Type 0
IsNearMonth n = (neg_ℤ (pos 10_000_000) ≤ℤ n) × (n ≤ℤ pos 10_000_000)
