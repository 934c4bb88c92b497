-- How a period is made the least by dividing factors out.
use Rattle.std.specs.Prelude.{ℕ, ◌*◌, ◌≤◌, ◌<◌, ℤ, ◌≡◌, ◌⊎◌, ◌/◌}
use Rattle.std.specs.Int.{◌∣◌}
use Rattle.rr_model.specs.Whole.Periodic.{RepeatsFrom}

-- no number from 2 up to below this one divides n
abbrev pub HasNoFactorBelow : ℕ → ℕ → Type 0
HasNoFactorBelow n bound = (d : ℕ) → 2 ≤ d → d < bound → d ∣ n → ⊥

-- the least divisor of n above 1
pub record IsLeastFactor (n factor : ℕ) : Type 0 where
  pub some : 2 ≤ factor
  pub divides : factor ∣ n
  pub none_below : HasNoFactorBelow n factor

-- A number has one least divisor above 1 at most.
abbrev pub LeastFactorIsOne : Type 0
LeastFactorIsOne = (n a b : ℕ) → IsLeastFactor n a → IsLeastFactor n b → a ≡ b

-- A period from q on, of which only factors of the rest may still be divided out.
pub record IsPeriodSoFar {X : Type 0} (f : ℤ → X) (q : ℤ) (period rest : ℕ) : Type 0 where
  pub some : 1 ≤ period
  pub repeats : RepeatsFrom f q period
  pub divides : rest ∣ period
  pub reaches : (r : ℕ) → RepeatsFrom f q r → r ∣ period → period ∣ r * rest

-- the period over the factor if that is a period too, and otherwise the period
abbrev pub IsDividedOnce : {X : Type 0} → (ℤ → X) → ℤ → ℕ → ℕ → ℕ → Type 0
IsDividedOnce f q period factor new =
    (RepeatsFrom f q (period / factor) × (new ≡ period / factor)) ⊎ ((RepeatsFrom f q (period / factor) → ⊥) × (new ≡ period))
