-- What a time set holds that was made of others.
use Rattle.std.specs.Prelude.{◌⊎◌, ℕ, ◌<◌, ◌≤◌, List, Contains, nat_lt}
use Rattle.rr_model.specs.Rising.Sets.{IsSetOf}

-- the seconds of either set
abbrev pub IsUnionOf : List ℕ → List ℕ → List ℕ → Type 0
IsUnionOf a b both = IsSetOf nat_lt both (λ s. Contains a s ⊎ Contains b s)

-- the seconds of the first set that the second one lacks
abbrev pub IsDifferenceOf : List ℕ → List ℕ → List ℕ → Type 0
IsDifferenceOf a b left = IsSetOf nat_lt left (λ s. Contains a s × ¬ Contains b s)

-- the seconds of a set from one on and below another
abbrev pub IsCutOf : List ℕ → ℕ → ℕ → List ℕ → Type 0
IsCutOf a from to part = IsSetOf nat_lt part (λ s. Contains a s × (from ≤ s) × (s < to))
