-- Of the first n items the one with the greatest number.
use Rattle.std.proofs.Common.{◌≡◌, ℕ, zero, suc, ◌+◌, ◌<◌, ◌≤◌, ◌==◌, Bool, true, false, cond, List, [], ◌∷◌, ◌++◌, Option, None, Some, inl, inr, refl, sym, ap, ◌∙◌, arith}
use Rattle.std.specs.Prelude.{nat_lt}
use Rattle.std.specs.List.{filter}
use Rattle.std.proofs.lemmas.Bool.{cases_Bool}
use Rattle.std.proofs.lemmas.Bool.Decides.{nat_tests}
use Rattle.rr_family.specs.Profile.{places_from}
use Rattle.rr_family.specs.Taking.{first_greatest}
use Rattle.rr_find.specs.ByCounts.{best_below, number_at}

pub best_zero : (number : ℕ → ℕ) → best_below number 0 ≡ None
unfolding best_below
best_zero number = refl

pub best_suc : (number : ℕ → ℕ) (n : ℕ) → best_below number (suc n) ≡ cond (nat_lt (number_at number (best_below number n)) (number n)) (Some n)
    (best_below number n)
unfolding best_below
best_suc number n = refl

-- the item lies among them and adds a day
pub best_some : (number : ℕ → ℕ) (n index : ℕ) → best_below number n ≡ Some index → (index < n) × (1 ≤ number index)
best_some number zero index e = absurd (none_some (sym (best_zero number) ∙ e))
  where
    none_some : {p : ℕ} → None ≡ Some p → ⊥
    none_some h = cc
best_some number (suc n) index e =
    elim (cases_Bool (nat_lt (number_at number (best_below number n)) (number n))) [
      | inl more ↦ (
          let s : Some n ≡ Some index = sym (ap (λ b. cond b (Some n) (best_below number n)) more) ∙ sym (best_suc number n) ∙ e in
          let same : n ≡ index = some_is n index s in
          let l : number_at number (best_below number n) < number n = grind (arith, nat_tests) in
          (omega (arith, same), omega (arith, ap number same, l)))
      | inr not_more ↦ (
          let b = best_some number n index (sym (ap (λ b. cond b (Some n) (best_below number n)) not_more) ∙ sym (best_suc number n) ∙ e) in
          (omega (arith, b.0), b.1))
    ]
  where
    some_is : (x y : ℕ) → Some x ≡ Some y → x ≡ y
    some_is x y h = cc

-- ---- the same by a list

-- of a list the first with the greatest number, if it is not 0
abbrev pub chosen : (ℕ → ℕ) → List ℕ → Option ℕ
chosen number [] = None
chosen number (x ∷ xs) = cond (number (first_greatest number x xs) == 0) None (Some (first_greatest number x xs))

number_of_chosen : (number : ℕ → ℕ) (x : ℕ) (xs : List ℕ) → number_at number (chosen number (x ∷ xs)) ≡ number (first_greatest number x xs)
number_of_chosen number x xs =
    let b = first_greatest number x xs in
    elim (number b == 0) as (λ z. number b == 0 ≡ z → number_at number (cond z None (Some b)) ≡ number b) [
      | true ↦ λ e. (let n : number b ≡ 0 = grind (arith, nat_tests) in sym n)
      | false ↦ λ e. refl
    ] refl

greatest_snoc : (number : ℕ → ℕ) (x : ℕ) (xs : List ℕ) (y : ℕ)
    → first_greatest number x (xs ++ (y ∷ [])) ≡ cond (nat_lt (number (first_greatest number x xs)) (number y)) y (first_greatest number x xs)
greatest_snoc number x [] y = refl
greatest_snoc number x (z ∷ zs) y =
    elim (nat_lt (number x) (number z)) as
    (λ b. cond b (first_greatest number z (zs ++ (y ∷ []))) (first_greatest number x (zs ++ (y ∷ [])))
    ≡ cond (nat_lt (number (cond b (first_greatest number z zs) (first_greatest number x zs))) (number y)) y (cond b (first_greatest number z zs)
    (first_greatest number x zs))) [
      | true ↦ greatest_snoc number z zs y
      | false ↦ greatest_snoc number x zs y
    ]

chosen_snoc : (number : ℕ → ℕ) (xs : List ℕ) (y : ℕ)
    → chosen number (xs ++ (y ∷ [])) ≡ cond (nat_lt (number_at number (chosen number xs)) (number y)) (Some y) (chosen number xs)
chosen_snoc number [] y =
    elim (cases_Bool (number y == 0)) [
      | inl none ↦ (let t : nat_lt 0 (number y) ≡ false = grind (arith, nat_tests) in rw (none, t) refl)
      | inr some ↦ (let t : nat_lt 0 (number y) ≡ true = grind (arith, nat_tests) in rw (some, t) refl)
    ]
chosen_snoc number (x ∷ xs) y =
    let b = first_greatest number x xs in
    let e = greatest_snoc number x xs y in
    let n = number_of_chosen number x xs in
    ap (λ z. cond (number z == 0) None (Some z)) e
    ∙ (elim (nat_lt (number b) (number y)) as
    (λ z. nat_lt (number b) (number y) ≡ z → cond (number (cond z y b) == 0) None (Some (cond z y b)) ≡ cond z (Some y) (chosen number (x ∷ xs))) [
      | true ↦ λ more. (let t : (number y == 0) ≡ false = grind (arith, nat_tests) in rw t refl)
      | false ↦ λ more. refl
    ] refl)
    ∙ ap (λ z. cond (nat_lt z (number y)) (Some y) (chosen number (x ∷ xs))) (sym n)

places_snoc : (k n : ℕ) → places_from k (suc n) ≡ places_from k n ++ ((k + n) ∷ [])
places_snoc k zero = (let e : k ≡ k + 0 = omega arith in ap (λ z. z ∷ []) e)
places_snoc k (suc n) =
    let e : suc k + n ≡ k + suc n = omega arith in
    ap (λ zs. k ∷ zs) (places_snoc (suc k) n ∙ ap (λ z. places_from (suc k) n ++ (z ∷ [])) e)

filter_snoc : (p : ℕ → Bool) (xs : List ℕ) (y : ℕ) → filter p (xs ++ (y ∷ [])) ≡ cond (p y) (filter p xs ++ (y ∷ [])) (filter p xs)
filter_snoc p [] y = refl
filter_snoc p (x ∷ xs) y =
    elim (p x) as (λ b. cond b (x ∷ filter p (xs ++ (y ∷ []))) (filter p (xs ++ (y ∷ [])))
    ≡ cond (p y) (cond b (x ∷ filter p xs) (filter p xs) ++ (y ∷ [])) (cond b (x ∷ filter p xs) (filter p xs))) [
      | true ↦ (ap (λ zs. x ∷ zs) (filter_snoc p xs y) ∙ (elim (p y) as (λ b. x ∷ cond b (filter p xs ++ (y ∷ [])) (filter p xs)
          ≡ cond b ((x ∷ filter p xs) ++ (y ∷ [])) (x ∷ filter p xs)) [ true ↦ refl | false ↦ refl ]))
      | false ↦ filter_snoc p xs y
    ]

-- the best of the items whose number is 0 if they do not pass is the one that is chosen of those that pass
pub best_is_chosen : (number : ℕ → ℕ) (passes : ℕ → Bool) (n : ℕ)
    → best_below (λ index. cond (passes index) (number index) 0) n ≡ chosen number (filter passes (places_from 0 n))
best_is_chosen number passes zero = best_zero (λ index. cond (passes index) (number index) 0)
best_is_chosen number passes (suc n) =
    let before = filter passes (places_from 0 n) in
    best_suc tested_of n
    ∙ (elim (passes n) as
    (λ b. passes n ≡ b → cond (nat_lt (number_at tested_of (best_below tested_of n)) (cond b (number n) 0)) (Some n) (best_below tested_of n)
    ≡ chosen number (cond b (before ++ (n ∷ [])) before)) [
      | true ↦ λ e. (
          ap (λ z. cond (nat_lt z (number n)) (Some n) (best_below tested_of n)) (same_number n)
          ∙ ap (λ z. cond (nat_lt (number_at number z) (number n)) (Some n) z) (best_is_chosen number passes n)
          ∙ sym (chosen_snoc number before n))
      | false ↦ λ e. (
          let t : nat_lt (number_at tested_of (best_below tested_of n)) 0 ≡ false = grind (arith, nat_tests) in
          ap (λ z. cond z (Some n) (best_below tested_of n)) t ∙ best_is_chosen number passes n)
    ] refl)
    ∙ ap (chosen number) (sym (filter_snoc passes (places_from 0 n) n))
    ∙ ap (λ zs. chosen number (filter passes zs)) (sym (places_snoc 0 n ∙ ap (λ z. places_from 0 n ++ (z ∷ [])) zero_more))
  where
    zero_more : 0 + n ≡ n
    zero_more = omega arith

    tested_of : ℕ → ℕ
    tested_of index = cond (passes index) (number index) 0

    -- the best one passes
    best_passes : (index : ℕ) → 1 ≤ tested_of index → tested_of index ≡ number index
    best_passes index l =
        elim (passes index) as (λ b. 1 ≤ cond b (number index) 0 → cond b (number index) 0 ≡ number index) [
          | true ↦ λ h. refl
          | false ↦ λ h. absurd (omega (arith, h))
        ] l

    number_same : (best : Option ℕ) → ((index : ℕ) → best ≡ Some index → 1 ≤ tested_of index) → number_at tested_of best ≡ number_at number best
    number_same None h = refl
    number_same (Some index) h = best_passes index (h index refl)

    same_number : (m : ℕ) → number_at tested_of (best_below tested_of m) ≡ number_at number (best_below tested_of m)
    same_number m = number_same (best_below tested_of m) (λ index e. (best_some tested_of m index e).1)
