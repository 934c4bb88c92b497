-- How many members of a list meet a condition, and how many pairs of them stand in a relation.
use Rattle.std.specs.Prelude.{◌≡◌, ◌⊎◌, ℕ, ◌+◌, List, [], ◌∷◌}

-- one if the condition holds, otherwise none
abbrev pub IsOneWhere : Type 0 → ℕ → Type 0
IsOneWhere P n = (P × (n ≡ 1)) ⊎ ((P → ⊥) × (n ≡ 0))

-- n members of the list meet the condition
abbrev pub IsCountOf : {X : Type 0} → (X → Type 0) → List X → ℕ → Type 0
IsCountOf P [] n = n ≡ 0
IsCountOf P (x ∷ xs) n = (one rest : ℕ) × IsOneWhere (P x) one × IsCountOf P xs rest × (n ≡ one + rest)

-- in n pairs of places of the list the earlier member stands in the relation to the later one
abbrev pub IsCountOfPairs : {X : Type 0} → (X → X → Type 0) → List X → ℕ → Type 0
IsCountOfPairs R [] n = n ≡ 0
IsCountOfPairs R (x ∷ xs) n = (first rest : ℕ) × IsCountOf (R x) xs first × IsCountOfPairs R xs rest × (n ≡ first + rest)

-- in n ordered pairs of different places the first member stands in the relation to the second
abbrev pub IsCountOfOrderedPairs : {X : Type 0} → (X → X → Type 0) → List X → ℕ → Type 0
IsCountOfOrderedPairs R xs n = (forth back : ℕ) × IsCountOfPairs R xs forth × IsCountOfPairs (λ x y. R y x) xs back × (n ≡ forth + back)
