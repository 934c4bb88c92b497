-- Counts over a window by sorts of days.
use Rattle.std.proofs.Common.{◌≡◌, ℕ, zero, suc, ◌+◌, ◌<◌, ◌≤◌, ◌==◌, Bool, true, false, cond, not, ◌&&◌, List, [], ◌∷◌, ℤ, pos, ◌+ℤ◌, ◌≤ℤ◌, ◌<ℤ◌}
use Rattle.std.proofs.Common.{inl, inr, refl, sym, ap, ◌∙◌, arith, Option, None, Some}
use Rattle.std.specs.List.{list_any}
use Rattle.std.proofs.lemmas.Int.{ints}
use Rattle.std.proofs.lemmas.Bool.{cases_Bool, cases_eq, eq-eqb, ne_eqb, false≢true}
use Rattle.rr_model.specs.Whole.Count.{count_from}
use Rattle.rr_model.proofs.CountLemmas.{one, count_from-zero, count_from-suc}
use Rattle.rr_family.specs.Taking.{some_gives}
use Rattle.rr_family.specs.Tally.{sum_below, sort_passes, days_of_sort, AreSorts, SoundBySorts, FurtherBySorts, UnsortedHasNoList, MixedHasNoList}
use Rattle.rr_family.proofs.TakingLemmas.{giver, taker}

-- ---- sums

pub sum_zero : (f : ℕ → ℕ) → sum_below 0 f ≡ 0
unfolding sum_below
sum_zero f = refl

pub sum_suc : (n : ℕ) (f : ℕ → ℕ) → sum_below (suc n) f ≡ sum_below n f + f n
unfolding sum_below
sum_suc n f = refl

pub sum_same : (n : ℕ) (f g : ℕ → ℕ) → ((k : ℕ) → k < n → f k ≡ g k) → sum_below n f ≡ sum_below n g
sum_same zero f g h = sum_zero f ∙ sym (sum_zero g)
sum_same (suc n) f g h = omega (arith, sum_suc n f, sum_suc n g, sum_same n f g (λ k l. h k (omega (arith, l))), h n (omega arith))

sum_add : (n : ℕ) (f g : ℕ → ℕ) → sum_below n (λ k. f k + g k) ≡ sum_below n f + sum_below n g
sum_add zero f g = omega (arith, sum_zero f, sum_zero g, sum_zero (λ k. f k + g k))
sum_add (suc n) f g = omega (arith, sum_suc n f, sum_suc n g, sum_suc n (λ k. f k + g k), sum_add n f g)

sum_none : (n : ℕ) (f : ℕ → ℕ) → ((k : ℕ) → k < n → f k ≡ 0) → sum_below n f ≡ 0
sum_none zero f h = sum_zero f
sum_none (suc n) f h = omega (arith, sum_suc n f, sum_none n f (λ k l. h k (omega (arith, l))), h n (omega arith))

sum_single : (n j : ℕ) (f : ℕ → ℕ) → j < n → ((k : ℕ) → (k ≡ j → ⊥) → f k ≡ 0) → sum_below n f ≡ f j
sum_single zero j f l h = absurd (omega (arith, l))
sum_single (suc n) j f l h =
    elim (cases_eq j n) [
      | inl same ↦ omega (arith, sum_suc n f, sum_none n f (λ k m. h k (λ e. omega (arith, e, m, same))), ap f same)
      | inr other ↦ omega (arith, sum_suc n f, sum_single n j f (omega (arith, l, other)) h, h n (λ e. omega (arith, e, other)))
    ]

-- ---- counts by sorts

module _ (sorts : ℕ) (sort_of : ℤ → Option ℕ) (below : (d : ℤ) (sort : ℕ) → sort_of d ≡ Some sort → sort < sorts) (q : ℕ → Bool) (test : ℤ → Bool) where
  -- what one day adds to the count of its sort
  added : (d : ℤ) → ℕ → ℕ
  added d k = cond (q k) (one (sort_passes (λ j. k == j) (sort_of d) && test d)) 0

  one_day : (d : ℤ) (s : Option ℕ) → sort_of d ≡ s → sum_below sorts (added d) ≡ one (sort_passes q s && test d)
  unfolding added
  one_day d None e = sum_none sorts (added d) (λ k l. rw e (nothing (q k)))
    where
      nothing : (b : Bool) → cond b (one false) 0 ≡ 0
      nothing true = refl
      nothing false = refl
  one_day d (Some j) e =
      sum_single sorts j (added d) (below d j e) (λ k other. rw (e, ne_eqb k j other) (nothing (q k)))
      ∙ rw (e, eq-eqb j j refl) (here (q j) (test d))
    where
      nothing : (b : Bool) → cond b (one false) 0 ≡ 0
      nothing true = refl
      nothing false = refl

      here : (b t : Bool) → cond b (one t) 0 ≡ one (b && t)
      here true t = refl
      here false t = refl

  abbrev pub by_sort : ℤ → ℕ → ℕ → ℕ
  by_sort first n k = cond (q k) (days_of_sort sort_of test first n k) 0

  pub count_by_sorts : (first : ℤ) (n : ℕ) → count_from (λ d. sort_passes q (sort_of d) && test d) first n ≡ sum_below sorts (by_sort first n)
  unfolding added
  count_by_sorts first zero =
      count_from-zero (λ d. sort_passes q (sort_of d) && test d) first
      ∙ sym (sum_none sorts (by_sort first 0) (λ k l. nothing (q k) k))
    where
      nothing : (b : Bool) (k : ℕ) → cond b (days_of_sort sort_of test first 0 k) 0 ≡ 0
      nothing true k = count_from-zero (λ d. sort_passes (λ j. k == j) (sort_of d) && test d) first
      nothing false k = refl
  count_by_sorts first (suc n) =
      let d = first +ℤ pos n in
      let e : sum_below sorts (by_sort first (suc n)) ≡ sum_below sorts (by_sort first n) + sum_below sorts (added d) =
      sum_same sorts (by_sort first (suc n)) (λ k. by_sort first n k + added d k) (λ k l. more (q k) k) ∙ sum_add sorts (by_sort first n) (added d) in
      omega (arith, count_from-suc (λ x. sort_passes q (sort_of x) && test x) first n, count_by_sorts first n, e, one_day d (sort_of d) refl)
    where
      more : (b : Bool) (k : ℕ) → cond b (days_of_sort sort_of test first (suc n) k) 0
          ≡ cond b (days_of_sort sort_of test first n k) 0 + cond b (one (sort_passes (λ j. k == j) (sort_of (first +ℤ pos n)) && test (first +ℤ pos n))) 0
      more true k = count_from-suc (λ d. sort_passes (λ j. k == j) (sort_of d) && test d) first n
      more false k = omega arith

-- ---- sound places and further days

same_count : (p r : ℤ → Bool) (first : ℤ) (n : ℕ) → ((d : ℤ) → p d ≡ r d) → count_from p first n ≡ count_from r first n
same_count p r first n h = ap (λ t. count_from t first n) (λ i d. h d i)

pub sound_by_sorts : SoundBySorts
sound_by_sorts gives sorts sort_of has occupied first days place are =
    ap (λ n. n == 0) (same_count (λ d. gives place d && not (occupied d)) (λ d. sort_passes (λ sort. has sort place) (sort_of d) && not (occupied d))
    first days (λ d. ap (λ b. b && not (occupied d)) (are.gives_sort place d))
    ∙ count_by_sorts sorts sort_of are.below (λ sort. has sort place) (λ d. not (occupied d)) first days)

some_of_sort : (has : ℕ → ℕ → Bool) (s : Option ℕ) (place : ℕ) (taken : List ℕ) (o : Bool)
    → (sort_passes (λ sort. has sort place) s && (o && not (list_any (λ other. sort_passes (λ sort. has sort other) s) taken)))
    ≡ (sort_passes (λ sort. has sort place && not (list_any (λ other. has sort other) taken)) s && o)
some_of_sort has None place taken o = refl
some_of_sort has (Some k) place taken o = swap (has k place) o (not (list_any (λ other. has k other) taken))
  where
    swap : (a b c : Bool) → (a && (b && c)) ≡ ((a && c) && b)
    swap true true true = refl
    swap true true false = refl
    swap true false true = refl
    swap true false false = refl
    swap false b c = refl

pub further_by_sorts : FurtherBySorts
further_by_sorts gives sorts sort_of has occupied first days taken place are =
    same_count (λ d. gives place d && (occupied d && not (some_gives gives taken d)))
    (λ d. sort_passes (λ sort. has sort place && not (list_any (λ other. has sort other) taken)) (sort_of d) && occupied d) first days (λ d.
    ap (λ b. b && (occupied d && not (some_gives gives taken d))) (are.gives_sort place d)
    ∙ ap (λ b. sort_passes (λ sort. has sort place) (sort_of d) && (occupied d && not b)) (all_sorts taken d)
    ∙ some_of_sort has (sort_of d) place taken (occupied d))
    ∙ count_by_sorts sorts sort_of are.below (λ sort. has sort place && not (list_any (λ other. has sort other) taken)) occupied first days
  where
    all_sorts : (places : List ℕ) (d : ℤ) → some_gives gives places d ≡ list_any (λ other. sort_passes (λ sort. has sort other) (sort_of d)) places
    all_sorts [] d = refl
    all_sorts (x ∷ xs) d = rw (are.gives_sort x d, all_sorts xs d) refl

-- ---- given up

-- a count that is not 0 has a day
day_counted : (p : ℤ → Bool) (q : ℤ) (n : ℕ) → 1 ≤ count_from p q n → (d : ℤ) × (q ≤ℤ d) × (d <ℤ (q +ℤ pos n)) × (p d ≡ true)
day_counted p q zero h = absurd (omega (arith, h, count_from-zero p q))
day_counted p q (suc n) h =
    elim (cases_Bool (p (q +ℤ pos n))) [
      | inl here ↦ (q +ℤ pos n, omega (arith, ints), omega (arith, ints), here)
      | inr none ↦ (let w = day_counted p q n (omega (arith, h, count_from-suc p q n, ap one none)) in
          (w.0, w.1, (let l = w.2 in omega (arith, ints, l)), w.3))
    ]

of_sort : (sort : ℕ) (s : Option ℕ) (t : Bool) → (sort_passes (λ k. sort == k) s && t) ≡ true → (s ≡ Some sort) × (t ≡ true)
of_sort sort None t h = absurd (false≢true h)
of_sort sort (Some k) t h =
    elim (cases_eq sort k) [
      | inl same ↦ (ap Some (sym same), (let e = eq-eqb sort k same in rw e at h))
      | inr other ↦ absurd (let e = ne_eqb sort k other in false≢true (rw e at h))
    ]

none_gives : (gives : ℕ → ℤ → Bool) (sorts : ℕ) (sort_of : ℤ → Option ℕ) (has : ℕ → ℕ → Bool) (d : ℤ) → AreSorts gives sorts sort_of has
    → sort_of d ≡ None → (places : List ℕ) → some_gives gives places d ≡ false
none_gives gives sorts sort_of has d are none [] = refl
none_gives gives sorts sort_of has d are none (x ∷ xs) =
    let e : gives x d ≡ false = are.gives_sort x d ∙ ap (sort_passes (λ sort. has sort x)) none in
    rw (e, none_gives gives sorts sort_of has d are none xs) refl

pub unsorted_has_no_list : UnsortedHasNoList
unsorted_has_no_list gives sorts sort_of has occupied first days places d are l h o none agree =
    false≢true (sym (none_gives gives sorts sort_of has d are none places) ∙ agree d l h ∙ o)

pub mixed_has_no_list : MixedHasNoList
mixed_has_no_list gives sorts sort_of has occupied first days places sort are some free agree =
    let a = day_counted (λ d. sort_passes (λ k. sort == k) (sort_of d) && occupied d) first days some in
    let b = day_counted (λ d. sort_passes (λ k. sort == k) (sort_of d) && not (occupied d)) first days free in
    let of_a = of_sort sort (sort_of a.0) (occupied a.0) a.3 in
    let of_b = of_sort sort (sort_of b.0) (not (occupied b.0)) b.3 in
    let g = giver (λ place. gives place a.0) places (agree a.0 a.1 a.2 ∙ of_a.1) in
    let same : gives g.0 b.0 ≡ gives g.0 a.0 =
    are.gives_sort g.0 b.0 ∙ ap (sort_passes (λ k. has k g.0)) (of_b.0 ∙ sym of_a.0) ∙ sym (are.gives_sort g.0 a.0) in
    let there : some_gives gives places b.0 ≡ true = taker (λ place. gives place b.0) places g.0 g.2 (same ∙ g.1) in
    let occ : occupied b.0 ≡ true = sym (agree b.0 b.1 b.2) ∙ there in
    false≢true (rw occ at of_b.1)
