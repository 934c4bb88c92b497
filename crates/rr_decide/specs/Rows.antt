-- Rows of numbers, of which some in a row are looked at.
use Rattle.std.specs.Prelude.{◌≡◌, ℕ, ◌<◌, ◌≤◌, List, get_or}

-- at each index from one on and below another the numbers of both rows are such a pair
abbrev pub EachPair : (ℕ → ℕ → Type 0) → List ℕ → List ℕ → ℕ → ℕ → Type 0
EachPair P xs ys from to = (k : ℕ) → from ≤ k → k < to → P (get_or xs k 0) (get_or ys k 0)

-- at each index from one on and below another both rows have one number
abbrev pub AreEqualRows : List ℕ → List ℕ → ℕ → ℕ → Type 0
AreEqualRows xs ys from to = EachPair (λ x y. x ≡ y) xs ys from to

-- at each index from one on and below another the number of the row is at most this one
abbrev pub AreUpTo : ℕ → List ℕ → ℕ → ℕ → Type 0
AreUpTo most xs from to = (k : ℕ) → from ≤ k → k < to → get_or xs k 0 ≤ most
