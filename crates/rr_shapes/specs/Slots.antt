-- Slots in which the last pairs are kept, so that they are found at once.
use Rattle.std.specs.Prelude.{◌≡◌, ◌⊎◌, ℕ, ◌+◌, ◌*◌, ◌%◌, List, Contains, slice_get, Some}
use Rattle.rr_shapes.specs.declared.pair_numbers.Pair.{Pair}

-- the slot of a pair, one of 128
abbrev pub slot_of : Pair → ℕ
slot_of pair = (pair.a % 128 + 10 * (pair.b % 128)) % 128

-- what stands in its own slot is known
abbrev pub AreKnownInSlots : List (Pair × ℕ) → List (Pair × ℕ) → Type 0
AreKnownInSlots known slots =
    (slot : ℕ) (entry : Pair × ℕ) → slice_get slots slot ≡ Some entry → slot_of entry.0 ≡ slot → Contains known entry

-- what stands in its own slot stood there before, and is of another pair, or it is the one that is kept
abbrev pub IsKept : List (Pair × ℕ) → List (Pair × ℕ) → Pair × ℕ → Type 0
IsKept old new kept =
    (slot : ℕ) (entry : Pair × ℕ) → slice_get new slot ≡ Some entry → slot_of entry.0 ≡ slot
    → (kept ≡ entry) ⊎ ((slice_get old slot ≡ Some entry) × (entry.0 ≡ kept.0 → ⊥))
