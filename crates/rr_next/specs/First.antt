-- The first whole numbers of which a property holds.
use Rattle.std.specs.Prelude.{◌≡◌, ◌⊎◌, ℕ, ◌≤◌, ℤ, ◌<ℤ◌, int_lt, List, length, All, Contains}
use Rattle.rr_model.specs.Rising.{Rises}

-- The list rises, has n at most, and what has the property is in it, or comes after n that are.
pub record AreFirst (P : ℤ → Type 0) (n : ℕ) (ts : List ℤ) : Type 0 where
  pub rises : Rises int_lt ts
  pub few : length ts ≤ n
  pub occur : All P ts
  pub first : (t : ℤ) → P t → Contains ts t ⊎ ((length ts ≡ n) × All (λ x. x <ℤ t) ts)

-- There is at most one list of the first n numbers of which P holds.
abbrev pub FirstIsOne : Type 1
FirstIsOne = (P : ℤ → Type 0) (n : ℕ) (ts us : List ℤ) → AreFirst P n ts → AreFirst P n us → ts ≡ us
