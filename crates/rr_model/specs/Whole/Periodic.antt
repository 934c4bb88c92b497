-- Sequences over all whole numbers that repeat from some place on.
use Rattle.std.specs.Prelude.{◌≡◌, ℕ, ℤ, pos, ◌+ℤ◌, ◌≤ℤ◌, ◌<ℤ◌}

-- from q on, each place has what the place p later has
abbrev pub RepeatsFrom : {X : Type 0} → (ℤ → X) → ℤ → ℕ → Type 0
RepeatsFrom f q p = (d : ℤ) → q ≤ℤ d → f (d +ℤ pos p) ≡ f d

-- the two have the same at the n places from q on
abbrev pub AgreeOn : {X : Type 0} → (ℤ → X) → (ℤ → X) → ℤ → ℕ → Type 0
AgreeOn f g q n = (d : ℤ) → q ≤ℤ d → d <ℤ (q +ℤ pos n) → f d ≡ g d

-- the two have the same at every place from q on
abbrev pub AgreeFrom : {X : Type 0} → (ℤ → X) → (ℤ → X) → ℤ → Type 0
AgreeFrom f g q = (d : ℤ) → q ≤ℤ d → f d ≡ g d
