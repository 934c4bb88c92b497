-- The items of a list that is taken rise: places rise, and items rise with their places.
use Rattle.std.proofs.Common.{◌≡◌, ℕ, zero, suc, ◌+◌, ◌-◌, ◌/◌, ◌%◌, ◌<◌, ◌≤◌, Bool, true, false, cond, ◌∷◌, pos, negsuc, inl, inr, refl}
use Rattle.std.proofs.Common.{sym, ap, ◌∙◌, arith}
use Rattle.std.specs.Prelude.{◌==◌, ◌||◌, nat_lt, map}
use Rattle.std.specs.List.{list_any, filter}
use Rattle.std.proofs.lemmas.Bool.{cases_lt, cases_eq}
use Rattle.std.proofs.lemmas.Bool.Decides.{nat_tests}
use Rattle.rr_model.specs.Rising.{Rises}
use Rattle.rr_model.specs.Vcal.Items.{is_place_before, item_lt}
use Rattle.rr_model.specs.declared.vcal.FamilyKind.{FamilyKind}
use Rattle.rr_model.specs.declared.vcal.FamilyKind.TheVariants as family
use Rattle.rr_model.proofs.TestLemmas.{int_eq-same}
use Rattle.rr_family.specs.Lasting.{is_occupied}
use Rattle.rr_family.specs.Places.{many_items, from_both_ends, item_at, place_has_day}
use Rattle.rr_family.specs.Profile.{places_from, all_places, ListItemsRise}
use Rattle.rr_family.specs.Taking.{taken_places}
use Rattle.rr_family.proofs.ProfileLemmas.{back_end}

-- ---- numbers from the front and from the back

pub from_front : (most place : ℕ) → place < most → from_both_ends most place ≡ pos (place + 1)
from_front most place l = let t : nat_lt place most ≡ true = grind (arith, nat_tests) in rw t refl

pub from_back : (most place : ℕ) → most ≤ place → from_both_ends most place ≡ negsuc (place - most)
from_back most place l =
    let e : place ≡ most + (place - most) = omega arith in
    ap (from_both_ends most) e ∙ back_end most (place - most)

both_ends_rise : (most j k : ℕ) → j < k → is_place_before (from_both_ends most j) (from_both_ends most k) ≡ true
both_ends_rise most j k l =
    elim (cases_lt k most) [
      | inl early ↦ (
          let a = from_front most j (omega arith) in
          let b = from_front most k early in
          let t : nat_lt (j + 1) (k + 1) ≡ true = grind (arith, nat_tests) in
          rw (a, b) t)
      | inr late ↦ elim (cases_lt j most) [
        | inl early ↦ (let a = from_front most j early in let b = from_back most k late in rw (a, b) refl)
        | inr later ↦ (
            let a = from_back most j later in
            let b = from_back most k late in
            let t : nat_lt (j - most) (k - most) ≡ true = grind (arith, nat_tests) in
            rw (a, b) t)
      ]
    ]

-- ---- items

or_first : (a b : Bool) → a ≡ true → (a || b) ≡ true
or_first a b e = rw e refl

places_rise : (j k : ℕ) → j < k → item_lt (item_at family.MP j) (item_at family.MP k) ≡ true
places_rise j k l =
    elim (cases_eq (j / 7) (k / 7)) [
      | inl same ↦ (
          let n = from_both_ends 5 (j / 7) in
          let t : nat_lt (j % 7) (k % 7) ≡ true = (let m : j % 7 < k % 7 = omega (arith, same, l) in grind (arith, nat_tests)) in
          let e : from_both_ends 5 (k / 7) ≡ n = ap (from_both_ends 5) (sym same) in
          rw (e, int_eq-same n, t) (or_last (is_place_before n n)))
      | inr other ↦ or_first (is_place_before (from_both_ends 5 (j / 7)) (from_both_ends 5 (k / 7))) _
          (both_ends_rise 5 (j / 7) (k / 7) (omega (arith, l, other)))
    ]
  where
    or_last : (a : Bool) → (a || true) ≡ true
    or_last true = refl
    or_last false = refl

item_at_rises : (f : FamilyKind) (j k : ℕ) → j < k → k < many_items f → item_lt (item_at f j) (item_at f k) ≡ true
item_at_rises family.D j k l h = absurd (omega (arith, l, h))
item_at_rises family.W j k l h = grind (arith, nat_tests)
item_at_rises family.MD j k l h = both_ends_rise 31 j k l
item_at_rises family.MP j k l h = places_rise j k l
item_at_rises family.YM j k l h = grind (arith, nat_tests)
item_at_rises family.YD j k l h = grind (arith, nat_tests)

-- ---- lists

module _ (f : FamilyKind) (kept : ℕ → Bool) where
  -- after a place the kept ones of the later places rise
  rise_after : (j k n : ℕ) → j < k → k + n ≤ many_items f → Rises item_lt (map (item_at f) (j ∷ filter kept (places_from k n)))
  rise_after j k zero l h = tt
  rise_after j k (suc n) l h =
      elim (kept k) as (λ b. Rises item_lt (map (item_at f) (j ∷ cond b (k ∷ filter kept (places_from (suc k) n)) (filter kept (places_from (suc k) n))))) [
        | true ↦ (item_at_rises f j k l (omega (arith, h)), rise_after k (suc k) n (omega arith) (omega (arith, h)))
        | false ↦ rise_after j (suc k) n (omega (arith, l)) (omega (arith, h))
      ]

  rise : (k n : ℕ) → k + n ≤ many_items f → Rises item_lt (map (item_at f) (filter kept (places_from k n)))
  rise k zero h = tt
  rise k (suc n) h =
      elim (kept k) as (λ b. Rises item_lt (map (item_at f) (cond b (k ∷ filter kept (places_from (suc k) n)) (filter kept (places_from (suc k) n))))) [
        | true ↦ rise_after k (suc k) n (omega arith) (omega (arith, h))
        | false ↦ rise (suc k) n (omega (arith, h))
      ]

pub list_items_rise : ListItemsRise
list_items_rise s f interval first days =
    let taken = taken_places (place_has_day f interval first) (is_occupied s) first days (all_places f) in
    rise f (λ place. list_any (λ other. place == other) taken) 0 (many_items f) (omega arith)
