-- A table of time sets that grows: sets that are there keep their numbers.
use Rattle.std.specs.Prelude.{◌≡◌, ◌⊎◌, ℕ, ◌<◌, List, [], All, Contains, get_or, length, slice_get, Some}
use Rattle.rr_model.specs.Rising.Sets.{IsSecondsOfDay}
use Rattle.rr_times.specs.Combined.{IsDifferenceOf, IsUnionOf}
use Rattle.rr_shapes.specs.declared.pair_numbers.Pair.{Pair}

-- each set of the old table has the same number in the new one
abbrev pub Extends : List (List ℕ) → List (List ℕ) → Type 0
Extends old new = (number : ℕ) (times : List ℕ) → slice_get old number ≡ Some times → slice_get new number ≡ Some times

-- nothing is known of pairs now but what was known before, and one entry
abbrev pub AddsOnly : List (Pair × ℕ) → List (Pair × ℕ) → Pair × ℕ → Type 0
AddsOnly old new entry = (known : Pair × ℕ) → Contains new known → Contains old known ⊎ (entry ≡ known)

-- no number of this pair is known
abbrev pub IsUnknown : List (Pair × ℕ) → Pair → Type 0
IsUnknown known pair = (number : ℕ) → Contains known (pair, number) → ⊥

-- all that was known of pairs still is
abbrev pub KeepsAll : List (Pair × ℕ) → List (Pair × ℕ) → Type 0
KeepsAll old new = (known : Pair × ℕ) → Contains old known → Contains new known

-- all that was known of pairs still is, but perhaps of this one
abbrev pub KeepsOthers : List (Pair × ℕ) → List (Pair × ℕ) → Pair → Type 0
KeepsOthers old new pair = (known : Pair × ℕ) → Contains old known → ¬ known.0 ≡ pair → Contains new known

-- the set of one number is the union of those of two others
pub record IsUnion (sets : List (List ℕ)) (known : Pair × ℕ) : Type 0 where
  pub a : known.0.a < length sets
  pub b : known.0.b < length sets
  pub number : known.1 < length sets
  pub union : IsUnionOf (get_or sets known.0.a []) (get_or sets known.0.b []) (get_or sets known.1 [])

-- the set of one number has the seconds of a first set that a second one lacks
pub record IsDifference (sets : List (List ℕ)) (known : Pair × ℕ) : Type 0 where
  pub a : known.0.a < length sets
  pub b : known.0.b < length sets
  pub number : known.1 < length sets
  pub difference : IsDifferenceOf (get_or sets known.0.a []) (get_or sets known.0.b []) (get_or sets known.1 [])

-- sets of seconds of a day, and unions and differences that are known
pub record IsTable (sets : List (List ℕ)) (known known_less : List (Pair × ℕ)) : Type 0 where
  pub of_day : All IsSecondsOfDay sets
  pub unions : All (IsUnion sets) known
  pub differences : All (IsDifference sets) known_less
