-- The events of two lists that have a key as often, one beside the other.
use Rattle.std.specs.Prelude.{◌≡◌, ℕ, ◌<◌, ◌==◌, Bool, true, not, ◌&&◌, ◌||◌, if◌then◌else◌, All, List, [], ◌∷◌, ◌++◌, length, slice_get, Some}
use Rattle.std.specs.List.{Contains}
use Rattle.rr_seam.specs.declared.key.Key.{Key}
use Rattle.rr_groups.specs.Groups.{indexes_of}
use Rattle.rr_groups.specs.declared.group.Group.{Group}
use Rattle.rr_groups.specs.declared.pairs.IndexPair.{IndexPair}

-- Both indexes are those of one key at the same place, and both lists have the key as often; if it must be the only one, once.
pub record IsPair (is_only : Bool) (a b : List Key) (pair : IndexPair) : Type 0 where
  pub key : Key
  pub place : ℕ
  pub of_a : slice_get (indexes_of key a) place ≡ Some pair.a
  pub of_b : slice_get (indexes_of key b) place ≡ Some pair.b
  pub as_often : length (indexes_of key a) ≡ length (indexes_of key b)
  pub once : is_only ≡ true → length (indexes_of key a) ≡ 1

-- these are all pairs, and no other
pub record ArePairs (is_only : Bool) (a b : List Key) (pairs : List IndexPair) : Type 0 where
  pub sound : All (IsPair is_only a b) pairs
  pub every : (pair : IndexPair) → IsPair is_only a b pair → Contains pairs pair

-- an index is in one pair at most
pub record PairsAreApart : Type 0 where
  pub of_a : (is_only : Bool) → (a b : List Key) → (p q : IndexPair) → IsPair is_only a b p → IsPair is_only a b q → p.a ≡ q.a → p.b ≡ q.b
  pub of_b : (is_only : Bool) → (a b : List Key) → (p q : IndexPair) → IsPair is_only a b p → IsPair is_only a b q → p.b ≡ q.b → p.a ≡ q.a

-- the indexes of a pair are below the lengths of their lists
abbrev pub PairsAreWithin : Type 0
PairsAreWithin =
    (is_only : Bool) → (a b : List Key) → (p : IndexPair) → IsPair is_only a b p → (p.a < length a) × (p.b < length b)

-- ---- pairs, group by group

-- a key makes pairs that A has so often and B so often
abbrev pub makes_pairs : Bool → ℕ → ℕ → Bool
makes_pairs is_only a b = (a == b) && (not is_only || (a == 1))

-- the first beside the first, the second beside the second, and so on
abbrev pub pairs_of_lists : List ℕ → List ℕ → List IndexPair
pairs_of_lists (i ∷ is) (j ∷ js) = record { a = i; b = j } ∷ pairs_of_lists is js
pairs_of_lists is js = []

-- the pairs of a key
abbrev pub pairs_in_group : Bool → Group → List IndexPair
pairs_in_group is_only group =
    if makes_pairs is_only (length group.a.items) (length group.b.items) then pairs_of_lists group.a.items group.b.items else []

-- the pairs of all keys
abbrev pub pairs_in : Bool → List Group → List IndexPair
pairs_in is_only [] = []
pairs_in is_only (group ∷ groups) = pairs_in_group is_only group ++ pairs_in is_only groups
