-- What each step of the choice keeps.
use Rattle.std.proofs.Common.{◌≡◌, ℕ, zero, suc, ◌+◌, ◌-◌, ◌<◌, ◌≤◌, ◌==◌, Bool, true, false, cond, List, [], ◌∷◌, Option, None, Some, inl, inr, refl, sym, ap, ◌∙◌, arith}
use Rattle.std.specs.Prelude.{◌⊎◌, nat_lt}
use Rattle.std.proofs.lemmas.Bool.Decides.{nat_tests}
use Rattle.rr_family.specs.Places.{item_at, many_items}
use Rattle.rr_family.specs.Sorts.{many_sorts, has_sort}
use Rattle.rr_family.specs.Tally.{sum_below}
use Rattle.rr_family.proofs.TallyLemmas.{sum_zero, sum_suc, sum_same}
use Rattle.rr_find.specs.ByCounts.{days_of_item, gain_of_item, best_below, best_index, days_left, number_at, AreTakenSoFar, IsTakenFrom, IsClear, AreTaken}
use Rattle.rr_find.proofs.BestLemmas.{best_suc}
use Rattle.rr_find.proofs.TakenLemmas.{sum_parts, some_days, left_after}
use Rattle.rr_model.specs.Rising.{with_value}
use Rattle.rr_model.specs.Vcal.Items.{item_lt}
use Rattle.rr_model.specs.declared.item.Item.{Item}
use Rattle.rr_model.specs.declared.vcal.FamilyKind.{FamilyKind}
use Rattle.rr_model.specs.declared.vcal.FamilyKind.TheVariants as family

-- the same days are left, so the same item is the best
best_same : (f : FamilyKind) (left left' free : ℕ → ℕ) → ((sort : ℕ) → sort < many_sorts f → left sort ≡ left' sort)
    → best_index f left free ≡ best_index f left' free
best_same f left left' free same = ap (λ number. best_below number (many_items f)) (λ i index. gain_same index i)
  where
    gain_same : (index : ℕ) → gain_of_item f left free index ≡ gain_of_item f left' free index
    gain_same index = ap (λ days. cond (days_of_item f free index == 0) days 0)
        (sum_same (many_sorts f) _ _ (λ k l. ap (λ x. cond (has_sort f k index) x 0) (same k l)))

pub taken_none : (f : FamilyKind) (occupied free : ℕ → ℕ) (items : List Item) → items ≡ [] → AreTakenSoFar f occupied free occupied items
taken_none f occupied free items is = record { taken = []; in_turn = tt; left_are = λ sort l. refl; items_are = is }

pub taken_next : (f : FamilyKind) (occupied free left left' : ℕ → ℕ) (items items' : List Item) (index : ℕ) → AreTakenSoFar f occupied free left items
    → best_index f left free ≡ Some index → IsTakenFrom f index left left' → items' ≡ with_value item_lt items (item_at f index)
    → AreTakenSoFar f occupied free left' items'
taken_next f occupied free left left' items items' index so_far best from is = record {
  taken = index ∷ so_far.taken;
  in_turn = (so_far.in_turn, sym (best_same f left (days_left f occupied so_far.taken) free so_far.left_are) ∙ best);
  left_are = λ sort l. from sort l ∙ ap (λ x. cond (has_sort f sort index) 0 x) (so_far.left_are sort l) ∙ sym (left_after f occupied so_far.taken
      index sort);
  items_are = is ∙ ap (λ zs. with_value item_lt zs (item_at f index)) so_far.items_are;
}

pub fewer_next : (f : FamilyKind) (left left' free : ℕ → ℕ) (index : ℕ) → best_index f left free ≡ Some index → IsTakenFrom f index left left'
    → sum_below (many_sorts f) left' < sum_below (many_sorts f) left
fewer_next f left left' free index best from =
    let same = sum_same (many_sorts f) left' (λ k. cond (has_sort f k index) 0 (left k)) from in
    let parts = sum_parts (many_sorts f) left (λ k. has_sort f k index) in
    let some = (some_days f left free index best).1 in
    omega (arith, same, parts, some)

pub index_fits : (f : FamilyKind) (left free : ℕ → ℕ) (index : ℕ) → Some index ≡ best_index f left free → index < many_items f
index_fits f left free index best = (some_days f left free index (sym best)).0

pub few_items : (f : FamilyKind) (index : ℕ) → index < many_items f → index < 366
few_items family.D index l = omega (arith, l)
few_items family.W index l = omega (arith, l)
few_items family.MD index l = omega (arith, l)
few_items family.MP index l = omega (arith, l)
few_items family.YM index l = omega (arith, l)
few_items family.YD index l = omega (arith, l)

module _ (f : FamilyKind) (occupied free left : ℕ → ℕ) (items : List Item) (so_far : AreTakenSoFar f occupied free left items)
    (best : best_index f left free ≡ None) where
  none_left : best_index f (days_left f occupied so_far.taken) free ≡ None
  none_left = sym (best_same f left (days_left f occupied so_far.taken) free so_far.left_are) ∙ best

  pub all_taken : IsClear f left → AreTaken f occupied free (Some items)
  all_taken clear = record {
    taken = so_far.taken;
    in_turn = so_far.in_turn;
    none_left = none_left;
    answer = (λ sort l. sym (so_far.left_are sort l) ∙ clear sort l, so_far.items_are);
  }

  pub not_all_taken : (IsClear f left → ⊥) → AreTaken f occupied free None
  not_all_taken unclear = record {
    taken = so_far.taken;
    in_turn = so_far.in_turn;
    none_left = none_left;
    answer = λ clear. unclear (λ sort l. so_far.left_are sort l ∙ clear sort l);
  }

-- ---- sums and the best item, by one more

pub few_if : (b : Bool) (x most : ℕ) → x ≤ most → cond b x 0 ≤ most
few_if true x most l = l
few_if false x most l = omega arith

pub sum_next : (n : ℕ) (number : ℕ → ℕ) (total x : ℕ) → total ≡ sum_below n number → x ≡ number n → total + x ≡ sum_below (n + 1) number
sum_next n number total x e f =
    let s : n + 1 ≡ suc n = omega arith in
    omega (arith, e, f, sum_suc n number) ∙ ap (λ k. sum_below k number) (sym s)

pub best_next : (number : ℕ → ℕ) (n : ℕ) (best best' : Option ℕ) (most most' days : ℕ) → best ≡ best_below number n → most ≡ number_at number best
    → days ≡ number n
    → ((most < days) × (best' ≡ Some n) × (most' ≡ days)) ⊎ ((days ≤ most) × (best' ≡ best) × (most' ≡ most))
    → (best' ≡ best_below number (n + 1)) × (most' ≡ number_at number best')
best_next number n best best' most most' days is of_best of_n (inl w) =
    let s : n + 1 ≡ suc n = omega arith in
    let m : most ≡ number_at number (best_below number n) = of_best ∙ ap (number_at number) is in
    let more : nat_lt (number_at number (best_below number n)) (number n) ≡ true = (let l = w.0 in grind (arith, nat_tests)) in (
      w.1 ∙ sym (ap (best_below number) s ∙ best_suc number n ∙ ap (λ b. cond b (Some n) (best_below number n)) more),
      w.2 ∙ of_n ∙ sym (ap (number_at number) w.1),
    )
best_next number n best best' most most' days is of_best of_n (inr w) =
    let s : n + 1 ≡ suc n = omega arith in
    let m : most ≡ number_at number (best_below number n) = of_best ∙ ap (number_at number) is in
    let not_more : nat_lt (number_at number (best_below number n)) (number n) ≡ false = (let l = w.0 in grind (arith, nat_tests)) in (
      w.1 ∙ is ∙ sym (ap (best_below number) s ∙ best_suc number n ∙ ap (λ b. cond b (Some n) (best_below number n)) not_more),
      w.2 ∙ of_best ∙ sym (ap (number_at number) w.1),
    )

-- ---- a sum of which one number stays

own_number : (index x : ℕ) → cond (index == index) x 0 ≡ x
own_number index x = (let e : (index == index) ≡ true = grind (arith, nat_tests) in ap (λ b. cond b x 0) e)

no_number : (index k x : ℕ) → k < index → cond (index == k) x 0 ≡ 0
no_number index k x l = (let e : (index == k) ≡ false = grind (arith, nat_tests) in ap (λ b. cond b x 0) e)

later_number : (index k x : ℕ) → index < k → cond (index == k) x 0 ≡ 0
later_number index k x l = (let e : (index == k) ≡ false = grind (arith, nat_tests) in ap (λ b. cond b x 0) e)

sum_before : (n index : ℕ) (number : ℕ → ℕ) → n ≤ index → sum_below n (λ k. cond (index == k) (number k) 0) ≡ 0
sum_before zero index number l = sum_zero _
sum_before (suc n) index number l =
    omega (arith, sum_suc n (λ k. cond (index == k) (number k) 0), sum_before n index number (omega (arith, l)), no_number index n (number n) (omega (arith, l)))

sum_through : (n index : ℕ) (number : ℕ → ℕ) → sum_below ((index + 1) + n) (λ k. cond (index == k) (number k) 0) ≡ number index
sum_through zero index number =
    let s : (index + 1) + 0 ≡ suc index = omega arith in
    ap (λ m. sum_below m (λ k. cond (index == k) (number k) 0)) s
    ∙ omega (arith, sum_suc index (λ k. cond (index == k) (number k) 0), sum_before index index number (omega arith), own_number index (number index))
sum_through (suc n) index number =
    let s : (index + 1) + suc n ≡ suc ((index + 1) + n) = omega arith in
    ap (λ m. sum_below m (λ k. cond (index == k) (number k) 0)) s
    ∙ omega (arith, sum_suc ((index + 1) + n) (λ k. cond (index == k) (number k) 0), sum_through n index number, later_number index ((index + 1) + n) (number ((index + 1) + n)) (omega arith))

module _ (f : FamilyKind) (days : ℕ → ℕ) (index : ℕ) (own : (sort index : ℕ) → has_sort f sort index ≡ (index == sort)) where
  by_numbers : days_of_item f days index ≡ sum_below (many_sorts f) (λ k. cond (index == k) (days k) 0)
  by_numbers = sum_same (many_sorts f) _ _ (λ k l. ap (λ b. cond b (days k) 0) (own k index))

  pub days_of_own : index < many_sorts f → days_of_item f days index ≡ days index
  days_of_own l =
      let n = many_sorts f - (index + 1) in
      let s : many_sorts f ≡ (index + 1) + n = omega (arith, l) in
      by_numbers ∙ ap (λ m. sum_below m (λ k. cond (index == k) (days k) 0)) s ∙ sum_through n index days

  pub days_of_none : many_sorts f ≤ index → days_of_item f days index ≡ 0
  days_of_none l = by_numbers ∙ sum_before (many_sorts f) index days l
