-- What stands in slots once a pair is kept in its own.
use Rattle.std.proofs.Common.{◌≡◌, ℕ, ◌<◌, ◌≤◌, List, Contains, length, get_or, slice_get, set, Some, Result, Ok, Err, inl, inr, refl, sym, ap, subst, ◌∙◌, arith}
use Rattle.std.specs.Prelude.{◌⊎◌, if◌then◌else◌, IsOk}
use Rattle.std.specs.Result.{is_ok}
use Rattle.std.proofs.lemmas.Bool.{cases_eq, cases_lt}
use Rattle.std.proofs.lemmas.List.{get_or-set_other, get_or-set_same, length-set}
use Rattle.std.proofs.lemmas.Option.{get_or_from_slice_get, slice_get_read, slice_get_within}
use Rattle.rr_shapes.specs.Slots.{AreKnownInSlots, IsKept}
use Rattle.rr_shapes.specs.declared.pair_numbers.Pair.{Pair}

module _ {P V : Type 0} (slot_of : P → ℕ) (old new : List (P × V)) (kept : P × V) (place : ℕ) (is_own : place ≡ slot_of kept.0) where
  -- what stands in its own slot is what is kept, or it stood there before and is of another pair
  abbrev Is : Type 0
  Is =
      (slot : ℕ) (entry : P × V) → slice_get new slot ≡ Some entry → slot_of entry.0 ≡ slot
      → (kept ≡ entry) ⊎ ((slice_get old slot ≡ Some entry) × (entry.0 ≡ kept.0 → ⊥))

  -- another slot has what it had
  other : (slot : ℕ) (entry : P × V) → slice_get new slot ≡ Some entry → slot_of entry.0 ≡ slot → (slot ≡ place → ⊥) → slot < length old
      → get_or new slot entry ≡ get_or old slot entry → (slice_get old slot ≡ Some entry) × (entry.0 ≡ kept.0 → ⊥)
  other slot entry at own away within same = (
    slice_get_read old (length old) slot entry refl within (sym (get_or_from_slice_get new slot entry entry at) ∙ same),
    λ e. away (sym own ∙ ap slot_of e ∙ sym is_own),
  )

  -- one slot is written
  pub written : place < length old → new ≡ set old place kept → Is
  written within e slot entry at own = elim (cases_eq slot place) [
    | inl here ↦ inl (
        sym (get_or-set_same old place kept entry within)
        ∙ ap (λ l. get_or l place entry) (sym e)
        ∙ ap (λ k. get_or new k entry) (sym here)
        ∙ get_or_from_slice_get new slot entry entry at
        )
    | inr away ↦
        (let short : slot < length old = omega (arith, slice_get_within new slot entry at, ap length e, length-set old place kept) in
        inr (other slot entry at own away short (ap (λ l. get_or l slot entry) e ∙ get_or-set_other old place slot kept entry away)))
  ]

  -- slots are added, each with what is kept, or none are
  pub added : {A E : Type 0} (count n m : ℕ) (r : Result A E) → length old ≤ place → place < count → n ≡ length old → m ≡ length new
      → m ≡ (if is_ok r then count else n)
      → ((k : ℕ) (d : P × V) → k < count → k < n → get_or new k d ≡ get_or old k d)
      → ((k : ℕ) (d : P × V) → IsOk r → n ≤ k → k < count → get_or new k d ≡ kept) → Is
  added count n m (Ok x) past few many long both was more slot entry at own = elim (cases_lt slot (length old)) [
    | inl l ↦ inr (other slot entry at own (λ here. omega (arith, past, l, here)) l (was slot entry (omega (arith, past, few, l)) (omega (arith, many, l))))
    | inr new_one ↦
        (let within : slot < count = omega (arith, long, both, slice_get_within new slot entry at) in
        inl (sym (more slot entry refl (omega (arith, many, new_one)) within) ∙ get_or_from_slice_get new slot entry entry at))
  ]
  added count n m (Err e) past few many long both was more slot entry at own =
      let l : slot < length old = omega (arith, many, long, both, slice_get_within new slot entry at) in
      inr (other slot entry at own (λ here. omega (arith, past, l, here)) l (was slot entry (omega (arith, past, few, l)) (omega (arith, many, l))))

-- what is known in slots still is, if what is kept is known, and so is all of other pairs
pub still_known : (known now old new : List (Pair × ℕ)) (kept : Pair × ℕ) → AreKnownInSlots known old → IsKept old new kept → Contains now kept
    → ((entry : Pair × ℕ) → Contains known entry → (entry.0 ≡ kept.0 → ⊥) → Contains now entry) → AreKnownInSlots now new
still_known known now old new kept before is there keeps slot entry at own = elim (is slot entry at own) [
  | inl e ↦ subst (Contains now) e there
  | inr stood ↦ keeps entry (before slot entry stood.0 own) stood.1
]
