-- The events of both calendars, sorted by their keys.
use Rattle.std.specs.Prelude.{ℕ, ◌+◌, Bool, true, false, List, [], ◌∷◌, ◌++◌, map, take_while, drop, length}
use Rattle.std.specs.List.Sorted.{IsPermutation, IsSortedBy, IsStableBy}
use Rattle.rr_model.specs.declared.verdict.Side.{Side}
use Rattle.rr_model.specs.declared.verdict.Side.TheVariants.{A, B, Both}
use Rattle.rr_seam.specs.Keys.{is_same_key, key_lt}
use Rattle.rr_seam.specs.declared.key.Key.{Key}
use Rattle.rr_groups.specs.declared.entry.Entry.{Entry}

-- the entries of the events of these keys, whose indexes count from this one on
abbrev pub entries_from : Side → ℕ → List Key → List Entry
entries_from side n [] = []
entries_from side n (k ∷ ks) = record { key = k; side = side; index = n } ∷ entries_from side (n + 1) ks

-- the events of A and then those of B
abbrev pub entries_of : List Key → List Key → List Entry
entries_of a b = entries_from A 0 a ++ entries_from B 0 b

-- an entry's key is below another's
abbrev pub entry_lt : Entry → Entry → Bool
entry_lt x y = key_lt x.key y.key

-- the entries in the order of their keys, those of one key in the order that they had
pub record IsSortedOf (given sorted : List Entry) : Type 0 where
  pub moved : IsPermutation given sorted
  pub rises : IsSortedBy entry_lt sorted
  pub stable : IsStableBy entry_lt given sorted

-- an entry has this key
abbrev pub has_key : Key → Entry → Bool
has_key key entry = is_same_key entry.key key

-- a side is A
abbrev pub is_a : Side → Bool
is_a A = true
is_a B = false
is_a Both = false

-- an entry is of A
abbrev pub is_of_a : Entry → Bool
is_of_a entry = is_a entry.side

-- the indexes of entries
abbrev pub indexes_in : List Entry → List ℕ
indexes_in entries = map (λ (entry : Entry). entry.index) entries

-- the entries of A at the front of a list
abbrev pub front_of_a : List Entry → List Entry
front_of_a entries = take_while is_of_a entries

-- the entries of a list after those of A at its front
abbrev pub after_a : List Entry → List Entry
after_a entries = drop (length (front_of_a entries)) entries
