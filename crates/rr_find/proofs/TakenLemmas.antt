-- What is taken by the counts of a window is what is taken on the window.
use Rattle.std.proofs.Common.{◌≡◌, ℕ, zero, suc, ◌+◌, ◌<◌, ◌≤◌, ◌==◌, Bool, true, false, cond, not, ◌&&◌, ◌||◌, List, [], ◌∷◌, Option, None, Some}
use Rattle.std.proofs.Common.{ℤ, pos, ◌+ℤ◌, ◌≤ℤ◌, ◌<ℤ◌, inl, inr, refl, sym, ap, subst, ◌∙◌, arith}
use Rattle.std.specs.List.{list_any}
use Rattle.std.proofs.lemmas.Bool.{cases_Bool, cases_eq, eq-eqb, eqb-true, false≢true}
use Rattle.std.proofs.lemmas.Bool.Decides.{nat_tests}
use Rattle.rr_model.specs.declared.vcal.FamilyKind.{FamilyKind}
use Rattle.rr_model.proofs.CountLemmas.{count_from-le, count_from-empty}
use Rattle.rr_model.proofs.TestLemmas.{same_truth}
use Rattle.rr_family.specs.Places.{many_items, place_has_day}
use Rattle.rr_family.specs.Profile.{all_places}
use Rattle.rr_family.specs.Sorts.{many_sorts, sort_of_day, has_sort}
use Rattle.rr_family.specs.Taking.{AgreeWithin, some_gives, is_sound, sound_places, further_days, first_greatest, taken_within, taken_places}
use Rattle.rr_family.specs.Tally.{sum_below, sort_passes, days_of_sort}
use Rattle.rr_family.proofs.SortLemmas.{kinds_have_sorts}
use Rattle.rr_family.proofs.TakingLemmas.{giver, taker, in_window, count_from-none_at, taking_is_sound}
use Rattle.rr_family.proofs.TallyLemmas.{sound_by_sorts, further_by_sorts, count_by_sorts, sum_zero, sum_suc, sum_same}
use Rattle.rr_find.specs.ByCounts.{days_of_item, gain_of_item, best_below, best_index, days_left, IsTakenInTurn, IsClear}
use Rattle.rr_find.specs.Counted.{has_some_sort, AreSorted}
use Rattle.rr_find.proofs.BestLemmas.{best_some, best_is_chosen, chosen}

-- ---- sums

-- what the numbers that pass leave, and they themselves
pub sum_parts : (n : ℕ) (number : ℕ → ℕ) (passes : ℕ → Bool)
    → sum_below n (λ k. cond (passes k) 0 (number k)) + sum_below n (λ k. cond (passes k) (number k) 0) ≡ sum_below n number
sum_parts zero number passes =
    omega (arith, sum_zero number, sum_zero (λ k. cond (passes k) 0 (number k)), sum_zero (λ k. cond (passes k) (number k) 0))
sum_parts (suc n) number passes =
    omega (
      arith,
      sum_suc n number,
      sum_suc n (λ k. cond (passes k) 0 (number k)),
      sum_suc n (λ k. cond (passes k) (number k) 0),
      sum_parts n number passes,
      one_of (passes n) (number n),
    )
  where
    one_of : (b : Bool) (x : ℕ) → cond b 0 x + cond b x 0 ≡ x
    one_of true x = omega arith
    one_of false x = omega arith

-- ---- one item more

pub left_after : (f : FamilyKind) (occupied : ℕ → ℕ) (taken : List ℕ) (index k : ℕ)
    → days_left f occupied (index ∷ taken) k ≡ cond (has_sort f k index) 0 (days_left f occupied taken k)
left_after f occupied taken index k =
    elim (has_sort f k index) as
    (λ b. cond (b || list_any (λ other. has_sort f k other) taken) 0 (occupied k) ≡ cond b 0 (days_left f occupied taken k)) [ true ↦ refl | false ↦ refl ]

pub fewer_left : (f : FamilyKind) (occupied : ℕ → ℕ) (taken : List ℕ) (index : ℕ)
    → sum_below (many_sorts f) (days_left f occupied (index ∷ taken)) + days_of_item f (days_left f occupied taken) index
    ≡ sum_below (many_sorts f) (days_left f occupied taken)
fewer_left f occupied taken index =
    ap (λ z. z + days_of_item f (days_left f occupied taken) index)
    (sum_same (many_sorts f) (days_left f occupied (index ∷ taken)) (λ k. cond (has_sort f k index) 0 (days_left f occupied taken k))
    (λ k l. left_after f occupied taken index k))
    ∙ sum_parts (many_sorts f) (days_left f occupied taken) (λ k. has_sort f k index)

-- an item that adds a day has one
pub some_days : (f : FamilyKind) (left free : ℕ → ℕ) (index : ℕ) → best_index f left free ≡ Some index
    → (index < many_items f) × (1 ≤ days_of_item f left index)
some_days f left free index e =
    let b = best_some (gain_of_item f left free) (many_items f) index e in
    (b.0, of_gain (days_of_item f free index == 0) (days_of_item f left index) b.1)
  where
    of_gain : (b : Bool) (x : ℕ) → 1 ≤ cond b x 0 → 1 ≤ x
    of_gain true x l = l
    of_gain false x l = absurd (omega (arith, l))

-- the items that are taken are items of the kind
pub in_range : (f : FamilyKind) (occupied free : ℕ → ℕ) (taken : List ℕ) → IsTakenInTurn f occupied free taken
    → (index : ℕ) → list_any (λ other. index == other) taken ≡ true → index < many_items f
in_range f occupied free [] turn index h = absurd (false≢true h)
in_range f occupied free (x ∷ taken) turn index h =
    elim (cases_eq index x) [
      | inl same ↦ omega (arith, same, (some_days f (days_left f occupied taken) free x turn.1).0)
      | inr other ↦ in_range f occupied free taken turn.0 index (later (index == x) (list_any (λ z. index == z) taken) h (grind (arith, nat_tests)))
    ]
  where
    later : (a b : Bool) → (a || b) ≡ true → a ≡ false → b ≡ true
    later a b g e = rw e at g

-- ---- on a window

module _ (f : FamilyKind) (interval : ℕ) (first : ℤ) (occupied : ℤ → Bool) (days : ℕ) (oc fc : ℕ → ℕ)
    (of_oc : (k : ℕ) → oc k ≡ days_of_sort (sort_of_day f interval first) occupied first days k)
    (of_fc : (k : ℕ) → fc k ≡ days_of_sort (sort_of_day f interval first) (λ d. not (occupied d)) first days k) where
  abbrev gives : ℕ → ℤ → Bool
  gives = place_has_day f interval first

  abbrev sort_of : ℤ → Option ℕ
  sort_of = sort_of_day f interval first

  abbrev sound : List ℕ
  sound = sound_places gives occupied first days (all_places f)

  sound_is : (index : ℕ) → is_sound gives occupied first days index ≡ (days_of_item f fc index == 0)
  sound_is index =
      sound_by_sorts gives (many_sorts f) sort_of (has_sort f) occupied first days index (kinds_have_sorts f interval first)
      ∙ ap (λ n. n == 0) (sum_same (many_sorts f) _ _ (λ k l. ap (λ x. cond (has_sort f k index) x 0) (sym (of_fc k))))

  further_is : (taken : List ℕ) (index : ℕ) → further_days gives occupied first days taken index ≡ days_of_item f (days_left f oc taken) index
  further_is taken index =
      further_by_sorts gives (many_sorts f) sort_of (has_sort f) occupied first days taken index (kinds_have_sorts f interval first)
      ∙ sum_same (many_sorts f) _ _ (λ k l. swap (has_sort f k index) (list_any (λ other. has_sort f k other) taken) (oc k) _ (of_oc k))
    where
      swap : (a b : Bool) (x y : ℕ) → x ≡ y → cond (a && not b) y 0 ≡ cond a (cond b 0 x) 0
      swap true true x y e = refl
      swap true false x y e = sym e
      swap false b x y e = refl

  best_is : (taken : List ℕ) → best_index f (days_left f oc taken) fc ≡ chosen (further_days gives occupied first days taken) sound
  best_is taken =
      ap (λ number. best_below number (many_items f)) (λ i index. gain_is index i)
      ∙ best_is_chosen (further_days gives occupied first days taken) (is_sound gives occupied first days) (many_items f)
    where
      gain_is : (index : ℕ) → gain_of_item f (days_left f oc taken) fc index
          ≡ cond (is_sound gives occupied first days index) (further_days gives occupied first days taken index) 0
      gain_is index =
          ap (λ b. cond b (days_of_item f (days_left f oc taken) index) 0) (sym (sound_is index))
          ∙ ap (λ n. cond (is_sound gives occupied first days index) n 0) (sym (further_is taken index))

  within_more : (steps : ℕ) (indexes taken : List ℕ) (index : ℕ) → chosen (further_days gives occupied first days taken) indexes ≡ Some index
      → taken_within (suc steps) gives occupied first days indexes taken ≡ taken_within steps gives occupied first days indexes (index ∷ taken)
  unfolding taken_within
  within_more steps [] taken index e = absurd (cc)
  within_more steps (x ∷ xs) taken index e =
      let number = further_days gives occupied first days taken in
      let b = first_greatest number x xs in
      elim (number b == 0) as (λ z. cond z None (Some b) ≡ Some index
      → cond z taken (taken_within steps gives occupied first days (x ∷ xs) (b ∷ taken)) ≡ taken_within steps gives occupied first days (x ∷ xs)
      (index ∷ taken)) [
        | true ↦ λ h. absurd (none_some h)
        | false ↦ λ h. ap (λ p. taken_within steps gives occupied first days (x ∷ xs) (p ∷ taken)) (some_is b index h)
      ] e
    where
      none_some : {p : ℕ} → None ≡ Some p → ⊥
      none_some h = cc

      some_is : (x y : ℕ) → Some x ≡ Some y → x ≡ y
      some_is x y h = cc

  within_done : (steps : ℕ) (indexes taken : List ℕ) → chosen (further_days gives occupied first days taken) indexes ≡ None
      → taken_within steps gives occupied first days indexes taken ≡ taken
  unfolding taken_within
  within_done zero [] taken e = refl
  within_done (suc steps) [] taken e = refl
  within_done zero (x ∷ xs) taken e = refl
  within_done (suc steps) (x ∷ xs) taken e =
      let number = further_days gives occupied first days taken in
      let b = first_greatest number x xs in
      elim (number b == 0) as (λ z. cond z None (Some b) ≡ None
      → cond z taken (taken_within steps gives occupied first days (x ∷ xs) (b ∷ taken)) ≡ taken) [
        | true ↦ λ h. refl
        | false ↦ λ h. absurd (some_none h)
      ] e
    where
      some_none : {p : ℕ} → Some p ≡ None → ⊥
      some_none h = cc

  few_left : sum_below (many_sorts f) oc ≤ days
  few_left =
      let by_sorts = count_by_sorts (many_sorts f) sort_of (kinds_have_sorts f interval first).below (λ k. true) occupied first days in
      let most = count_from-le (λ d. sort_passes (λ k. true) (sort_of d) && occupied d) first days in
      let same = sum_same (many_sorts f) oc (days_of_sort sort_of occupied first days) (λ k l. of_oc k) in
      omega (arith, by_sorts, most, same)

  -- from these items on the taking goes on, with steps enough for the days that are left
  record TakesOn (taken : List ℕ) : Type 0 where
    pub steps : ℕ
    pub same : taken_places gives occupied first days (all_places f) ≡ taken_within steps gives occupied first days sound taken
    pub few : sum_below (many_sorts f) (days_left f oc taken) ≤ steps

  takes_on : (taken : List ℕ) → IsTakenInTurn f oc fc taken → TakesOn taken
  takes_on [] turn = record { steps = days; same = refl; few = few_left }
  takes_on (index ∷ taken) turn =
      let on = takes_on taken turn.0 in go on.steps on.same on.few
    where
      go : (steps : ℕ) → taken_places gives occupied first days (all_places f) ≡ taken_within steps gives occupied first days sound taken
          → sum_below (many_sorts f) (days_left f oc taken) ≤ steps → TakesOn (index ∷ taken)
      go zero same few = absurd (omega (arith, fewer_left f oc taken index, (some_days f (days_left f oc taken) fc index turn.1).1, few))
      go (suc steps) same few = record {
        steps = steps;
        same = same ∙ within_more steps sound taken index (sym (best_is taken) ∙ turn.1);
        few = omega (arith, fewer_left f oc taken index, (some_days f (days_left f oc taken) fc index turn.1).1, few);
      }

  pub taken_is : (taken : List ℕ) → IsTakenInTurn f oc fc taken → best_index f (days_left f oc taken) fc ≡ None
      → taken_places gives occupied first days (all_places f) ≡ taken
  taken_is taken turn done =
      let on = takes_on taken turn in on.same ∙ within_done on.steps sound taken (sym (best_is taken) ∙ done)

  -- a day of the window counts for its sort
  counted : (d : ℤ) → first ≤ℤ d → d <ℤ (first +ℤ pos days) → (k : ℕ) → sort_of d ≡ Some k → occupied d ≡ true → oc k ≡ 0 → ⊥
  counted d l h k is o zero_days =
      let w = in_window first d days l h in
      let off = subst (λ z. (sort_passes (λ j. k == j) (sort_of z) && occupied z) ≡ false) w.2
      (count_from-none_at (λ z. sort_passes (λ j. k == j) (sort_of z) && occupied z) first days (sym (of_oc k) ∙ zero_days) w.0 w.1) in
      false≢true (sym off ∙ here)
    where
      here : (sort_passes (λ j. k == j) (sort_of d) && occupied d) ≡ true
      here = rw (is, o, eq-eqb k k refl) refl

  -- the sort of an occupied day is known
  sort_known : (s : Option ℕ) → has_some_sort s ≡ true → (k : ℕ) × (s ≡ Some k)
  sort_known None h = absurd (false≢true h)
  sort_known (Some k) h = (k, refl)

  gives_by_sort : (d : ℤ) (k index : ℕ) → sort_of d ≡ Some k → gives index d ≡ has_sort f k index
  gives_by_sort d k index is = (kinds_have_sorts f interval first).gives_sort index d ∙ ap (sort_passes (λ sort. has_sort f sort index)) is

  pub covers_if_clear : (taken : List ℕ) → IsTakenInTurn f oc fc taken → best_index f (days_left f oc taken) fc ≡ None
      → AreSorted sort_of occupied first days
      → IsClear f (days_left f oc taken) → AgreeWithin (some_gives gives taken) occupied first days
  covers_if_clear taken turn done sorted clear d l h =
      same_truth (some_gives gives taken d) (occupied d)
      (λ g. taking_is_sound gives occupied first days (all_places f) d l h (subst (λ ps. some_gives gives ps d ≡ true) (sym (taken_is taken turn done)) g))
      (λ o. (
      let s = sort_known (sort_of d) (sorted d l h o) in
      elim (cases_Bool (list_any (λ index. has_sort f s.0 index) taken)) [
        | inl has ↦ (let g = giver (λ index. has_sort f s.0 index) taken has in
            taker (λ index. gives index d) taken g.0 g.2 (gives_by_sort d s.0 g.0 s.1 ∙ g.1))
        | inr absent ↦ absurd (counted d l h s.0 s.1 o (
            ap (λ b. cond b 0 (oc s.0)) (sym absent) ∙ clear s.0 ((kinds_have_sorts f interval first).below d s.0 s.1)))
      ]))

  pub clear_if_covers : (taken : List ℕ) → AgreeWithin (some_gives gives taken) occupied first days → IsClear f (days_left f oc taken)
  clear_if_covers taken agree k l =
      elim (cases_Bool (list_any (λ index. has_sort f k index) taken)) [
        | inl has ↦ ap (λ b. cond b 0 (oc k)) has
        | inr absent ↦ ap (λ b. cond b 0 (oc k)) absent ∙ of_oc k ∙ count_from-empty (λ d. sort_passes (λ j. k == j) (sort_of d) && occupied d)
            first days (λ d l h. not_here d l h absent)
      ]
    where
      of_sort : (s : Option ℕ) (t : Bool) → (sort_passes (λ j. k == j) s && t) ≡ true → (s ≡ Some k) × (t ≡ true)
      of_sort None t h = absurd (false≢true h)
      of_sort (Some j) true h = (ap Some (sym (eqb-true k j (and_true (k == j) h))), refl)
        where
          and_true : (b : Bool) → (b && true) ≡ true → b ≡ true
          and_true true g = refl
          and_true false g = g
      of_sort (Some j) false h = absurd (false≢true (sym (and_false (k == j)) ∙ h))
        where
          and_false : (b : Bool) → (b && false) ≡ false
          and_false true = refl
          and_false false = refl

      not_here : (d : ℤ) → first ≤ℤ d → d <ℤ (first +ℤ pos days) → list_any (λ index. has_sort f k index) taken ≡ false
          → (sort_passes (λ j. k == j) (sort_of d) && occupied d) ≡ false
      not_here d l h absent =
          elim (cases_Bool (sort_passes (λ j. k == j) (sort_of d) && occupied d)) [
            | inl holds ↦ (
                let s = of_sort (sort_of d) (occupied d) holds in
                let g = giver (λ index. gives index d) taken (agree d l h ∙ s.1) in
                absurd (false≢true (sym absent ∙ taker (λ index. has_sort f k index) taken g.0 g.2 (sym (gives_by_sort d k g.0 s.0) ∙ g.1))))
            | inr none_here ↦ none_here
          ]
