-- Whole numbers: division that rounds down, and its remainder.
pub mod Count
pub mod Divisors
pub mod Periodic
use Rattle.std.specs.Prelude.{ℕ, ◌-◌, ◌/◌, ◌%◌, ◌==◌, Bool, ℤ, pos, negsuc}

-- z / n rounded towards minus infinity
abbrev pub floor_div : ℤ → ℕ → ℤ
floor_div (pos a) n = pos (a / n)
floor_div (negsuc a) n = negsuc (a / n)

-- what is left of z, from 0 up to below n
abbrev pub floor_mod : ℤ → ℕ → ℕ
floor_mod (pos a) n = a % n
floor_mod (negsuc a) n = n - 1 - a % n

-- n divides z
abbrev pub divides : ℕ → ℤ → Bool
divides n z = floor_mod z n == 0
