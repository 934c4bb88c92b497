-- The parts that a Graph pattern gives to its counterpart, as tests of a day.
use Rattle.std.proofs.Common.{◌≡◌, ℕ, ◌<◌, ◌≤◌, ◌==◌, Bool, true, false, cond, ◌&&◌, ◌||◌, List, [], ◌∷◌, map}
use Rattle.std.proofs.Common.{ℤ, pos, ◌-ℤ◌, nat_le, inl, inr, refl, sym, ap, ◌∙◌, arith}
use Rattle.std.specs.List.{list_any, filter}
use Rattle.std.specs.Ordering.{int_eq}
use Rattle.std.proofs.lemmas.Int.{ints}
use Rattle.std.proofs.lemmas.Bool.{cases_eq, eq-eqb, ne_eqb, eqb-false, cases_Bool}
use Rattle.std.proofs.lemmas.Bool.Decides.{nat_tests}
use Rattle.std.proofs.Math.Bool.{and-true}
use Rattle.rr_model.specs.Calendar.{weekday_of}
use Rattle.rr_model.specs.Rule.Candidate.{lists, day_item_holds}
use Rattle.rr_model.specs.Rule.Validity.{is_absent}
use Rattle.rr_model.specs.declared.rule.DayItem.{DayItem}
use Rattle.rr_model.proofs.CalendarLemmas.{weekday_of_below}
use Rattle.rr_model.specs.Vcal.Counterpart.{day_item}
use Rattle.rr_model.specs.Graph.Occurrences.{is_day_in}
use Rattle.rr_model.specs.Graph.Counterpart.{has_weekday, days_of_sum, month_days_up_to}

-- ---- the weekdays of a sum

any_mapped : {X Y : Type 0} (p : Y → Bool) (f : X → Y) (q : X → Bool) (xs : List X) → list_any p (map f (filter q xs)) ≡ list_any (λ x. q x && p (f x)) xs
any_mapped p f q [] = refl
any_mapped p f q (x ∷ xs) =
    elim (q x) as (λ b. list_any p (map f (cond b (x ∷ filter q xs) (filter q xs))) ≡ ((b && p (f x)) || list_any (λ y. q y && p (f y)) xs)) [
      | true ↦ ap (λ b. p (f x) || b) (any_mapped p f q xs)
      | false ↦ any_mapped p f q xs
    ]

abbrev all_weekdays : List ℕ
all_weekdays = 0 ∷ 1 ∷ 2 ∷ 3 ∷ 4 ∷ 5 ∷ 6 ∷ []

-- the one weekday w among those that pass
any_weekday : (q : ℕ → Bool) (r : ℕ → Bool) (w : ℕ) (xs : List ℕ) → ((x : ℕ) → r x ≡ (x == w))
    → list_any (λ x. q x && r x) xs ≡ (list_any (λ x. x == w) xs && q w)
any_weekday q r w [] same = refl
any_weekday q r w (x ∷ xs) same =
    elim (cases_eq x w) [
      | inl here ↦ rw (same x, any_weekday q r w xs same, here, eq-eqb w w refl) (at_it (q w) (list_any (λ x. x == w) xs))
      | inr other ↦ rw (same x, any_weekday q r w xs same, ne_eqb x w other) (off_it (q x) (list_any (λ x. x == w) xs && q w))
    ]
  where
    at_it : (a b : Bool) → ((a && true) || (b && a)) ≡ a
    at_it true b = refl
    at_it false true = refl
    at_it false false = refl

    off_it : (a b : Bool) → ((a && false) || b) ≡ b
    off_it true b = refl
    off_it false b = refl

every_weekday : (w : ℕ) → w < 7 → list_any (λ x. x == w) all_weekdays ≡ true
every_weekday w l = grind (arith, nat_tests)

weekday_test : (w x : ℕ) → (x == w && (true || false)) ≡ (x == w)
weekday_test w x = and-true (x == w)

sum_has : (days w : ℕ) → w < 7 → list_any (λ item. item.weekday == w) (days_of_sum days) ≡ has_weekday days w
sum_has days w l = any_mapped (λ (item : DayItem). item.weekday == w) (λ weekday. day_item (pos 0) weekday) (has_weekday days) all_weekdays
    ∙ any_weekday (has_weekday days) (λ x. x == w) w all_weekdays (λ x. refl) ∙ ap (λ b. b && has_weekday days w) (every_weekday w l)

-- BYDAY of a sum lists the day's weekday if the sum has it
pub any_in_sum : (in_year : Bool) (days : ℕ) (d : ℤ) → list_any (day_item_holds in_year d) (days_of_sum days) ≡ is_day_in days d
any_in_sum in_year days d =
    let w = weekday_of d in
    any_mapped (day_item_holds in_year d) (λ weekday. day_item (pos 0) weekday) (has_weekday days) all_weekdays
    ∙ any_weekday (has_weekday days) (λ x. day_item_holds in_year d (day_item (pos 0) x)) w all_weekdays (λ x. and-true (x == w))
    ∙ ap (λ b. b && has_weekday days w) (every_weekday w (weekday_of_below d))

nothing : (items : List DayItem) (p : DayItem → Bool) → is_absent items ≡ true → list_any p items ≡ false
nothing [] p e = refl
nothing (x ∷ xs) p e = absurd (cc)

-- a sum from 1 to 127 has some weekday
pub some_in_sum : (days : ℕ) → 1 ≤ days → days < 128 → is_absent (days_of_sum days) ≡ false
some_in_sum days low high =
    elim (cases_Bool (is_absent (days_of_sum days))) [
      | inl none ↦ (
          let has : (w : ℕ) → w < 7 → has_weekday days w ≡ false =
          λ w l. sym (sum_has days w l) ∙ nothing (days_of_sum days) (λ item. item.weekday == w) none in
          let a = eqb-false _ 1 (has 0 (omega arith)) in
          let b = eqb-false _ 1 (has 1 (omega arith)) in
          let c = eqb-false _ 1 (has 2 (omega arith)) in
          let e = eqb-false _ 1 (has 3 (omega arith)) in
          let f = eqb-false _ 1 (has 4 (omega arith)) in
          let g = eqb-false _ 1 (has 5 (omega arith)) in
          let h = eqb-false _ 1 (has 6 (omega arith)) in
          absurd (omega (arith, a, b, c, e, f, g, h)))
      | inr some ↦ some
    ]

-- ---- days of the month

-- one day from the front
pub one_day : (a k many : ℕ) → k ≤ many → ((int_eq (pos a) (pos k) || false) || (int_eq (pos a) ((pos k -ℤ pos many) -ℤ pos 1) || false)) ≡ (k == a)
one_day a k many low = grind (arith, ints, nat_tests)

-- the days 28 up to a day of 29 to 31
pub days_up_to : (n k many : ℕ) → 29 ≤ n → n ≤ 31 → k ≤ many
    → (lists (month_days_up_to n) (pos k) || lists (month_days_up_to n) ((pos k -ℤ pos many) -ℤ pos 1)) ≡ (nat_le 28 k && nat_le k n)
days_up_to n k many low high h =
    elim (cases_eq n 29) [
      | inl a ↦ rw a (upto_29 k many h)
      | inr b ↦ elim (cases_eq n 30) [
        | inl a ↦ rw a (upto_30 k many h)
        | inr c ↦ (let a : n ≡ 31 = omega (arith, b, c, low, high) in rw a (upto_31 k many h))
      ]
    ]
  where
    upto_29 : (k many : ℕ) → k ≤ many → (lists (month_days_up_to 29) (pos k) || lists (month_days_up_to 29) ((pos k -ℤ pos many) -ℤ pos 1))
        ≡ (nat_le 28 k && nat_le k 29)
    upto_29 k many h = grind (arith, ints, nat_tests)

    upto_30 : (k many : ℕ) → k ≤ many → (lists (month_days_up_to 30) (pos k) || lists (month_days_up_to 30) ((pos k -ℤ pos many) -ℤ pos 1))
        ≡ (nat_le 28 k && nat_le k 30)
    upto_30 k many h = grind (arith, ints, nat_tests)

    upto_31 : (k many : ℕ) → k ≤ many → (lists (month_days_up_to 31) (pos k) || lists (month_days_up_to 31) ((pos k -ℤ pos many) -ℤ pos 1))
        ≡ (nat_le 28 k && nat_le k 31)
    upto_31 k many h = grind (arith, ints, nat_tests)
