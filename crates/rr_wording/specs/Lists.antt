-- Lists in English: A, B and C.
use Rattle.std.specs.Prelude.{ℕ, ◌+◌, ◌==◌, if◌then◌else◌, List, [], ◌∷◌, ◌++◌, length, take, drop, codes}

-- what stands behind a value that `more` values follow: the word if it is the last but one, otherwise a comma
unfoldable pub joint : List ℕ → ℕ → List ℕ
joint word more = if more == 0 then [] else (if more == 1 then word else codes ", ")

-- values in words, each with what stands behind it; `more` values follow them
abbrev pub listed : {X : Type 0} → (X → List ℕ) → List ℕ → ℕ → List X → List ℕ
listed words word more [] = []
listed words word more (x ∷ xs) = words x ++ joint word (length xs + more) ++ listed words word more xs

-- The values of a part, which rise: the first `back` of them count from the back, and are said last.
abbrev pub said_in_order : {X : Type 0} → (X → List ℕ) → List ℕ → ℕ → List X → List ℕ
said_in_order words word back xs = listed words word back (drop back xs) ++ listed words word 0 (take back xs)
