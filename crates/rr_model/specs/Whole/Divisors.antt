-- Greatest common divisors and least common multiples.
use Rattle.std.specs.Prelude.{ℕ, zero, suc, ◌<◌, ◌≤◌, ◌*◌, ◌/◌, ◌%◌, ◌==◌, if◌then◌else◌}
use Prim.Native.Nat.{◌∣◌}
use Rattle.std.specs.Int.{IsGcd}

-- Euclid's division: the remainder divides on, for at most n steps
unfoldable pub gcd_within : ℕ → ℕ → ℕ → ℕ
gcd_within zero a b = a
gcd_within (suc steps) a b = if b == 0 then a else gcd_within steps b (a % b)

-- the greatest common divisor
unfoldable pub gcd : ℕ → ℕ → ℕ
gcd a b = gcd_within b a b

-- the least common multiple
unfoldable pub lcm : ℕ → ℕ → ℕ
lcm a b = a / gcd a b * b

-- m is a multiple of a and of b, and divides each number that is
abbrev pub IsLcm : ℕ → ℕ → ℕ → Type 0
IsLcm a b m = (a ∣ m) × (b ∣ m) × ((n : ℕ) → a ∣ n → b ∣ n → m ∣ n)

-- each number that is a multiple of both is above the most
abbrev pub NoMultipleWithin : ℕ → ℕ → ℕ → Type 0
NoMultipleWithin a b most = (n : ℕ) → 1 ≤ n → a ∣ n → b ∣ n → most < n

-- the greatest common divisor divides both, and each number that does divides it
abbrev pub GcdIsGreatest : Type 0
GcdIsGreatest = (a b : ℕ) → IsGcd a b (gcd a b)

-- the least common multiple is a multiple of both, and divides each number that is
abbrev pub LcmIsLeast : Type 0
LcmIsLeast = (a b : ℕ) → 1 ≤ a → 1 ≤ b → IsLcm a b (lcm a b)
