-- Worked rows of the definitions.
use Rattle.std.proofs.Common.{◌≡◌, List, [], ◌∷◌, true, false, sym, refl}
use Rattle.std.proofs.lemmas.Bool.{true≢false}
use Rattle.rr_seam.specs.declared.key.Key.{Key}
use Rattle.rr_seam.specs.declared.key.Key.TheVariants.{Line, Number}
use Rattle.rr_groups.specs.Groups.{indexes_of}
use Rattle.rr_groups.specs.Pairs.{IsPair, makes_pairs, pairs_of_lists}

-- A has a key twice, and once another
abbrev in_a : List Key
in_a = Line 7 ∷ Number 2 ∷ Line 7 ∷ []

-- B has the same keys as often, in another order, and one more
abbrev in_b : List Key
in_b = Line 7 ∷ Line 7 ∷ Number 2 ∷ Number 3 ∷ []

-- where a key stands in each
twice_in_a : indexes_of (Line 7) in_a ≡ 0 ∷ 2 ∷ []
twice_in_a = refl

twice_in_b : indexes_of (Line 7) in_b ≡ 0 ∷ 1 ∷ []
twice_in_b = refl

-- the second of A goes with the second of B
second : IsPair false in_a in_b (record { a = 2; b = 1 })
second = record { key = Line 7; place = 1; of_a = refl; of_b = refl; as_often = refl; once = λ only. absurd (true≢false (sym only)) }

-- a key that each has once makes a pair also if it must be the only one
only_one : IsPair true in_a in_b (record { a = 1; b = 2 })
only_one = record { key = Number 2; place = 0; of_a = refl; of_b = refl; as_often = refl; once = λ _. refl }

-- a key that each has twice makes no pair there
two_beside_two : makes_pairs true 2 2 ≡ false
two_beside_two = refl

-- one that A has twice and B once makes none at all
two_beside_one : makes_pairs false 2 1 ≡ false
two_beside_one = refl

-- the pairs of the indexes of one key
in_turn : pairs_of_lists (0 ∷ 2 ∷ []) (0 ∷ 1 ∷ []) ≡ record { a = 0; b = 0 } ∷ record { a = 2; b = 1 } ∷ []
in_turn = refl
