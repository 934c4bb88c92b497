-- A rule that leaves out the days which a month lacks chooses what it chooses without SKIP.
use Rattle.std.proofs.Common.{◌≡◌, ℕ, ◌/◌, ◌%◌, ◌≤◌, Bool, ◌==◌, true, false, cond, ◌&&◌, ◌||◌, List, [], ◌∷◌, All, ℤ, pos, nat_abs, ◌+ℤ◌, ◌-ℤ◌, ◌≤ℤ◌}
use Rattle.std.proofs.Common.{refl, sym, ap, subst, ◌∙◌, arith, eq-eqb}
use Rattle.std.specs.Prelude.{IsTrue, int_le}
use Rattle.std.specs.List.{list_any}
use Rattle.std.specs.Ordering.{int_eq}
use Rattle.std.proofs.lemmas.Int.{ints}
use Rattle.std.proofs.lemmas.Bool.{false≢true, and_parts}
use Rattle.std.proofs.Math.Bool.{and-true, or-false}
use Rattle.std.proofs.lemmas.List.Folds.{list_any_none}
use Rattle.std.specs.Cmp.{both_ways}
use Rattle.std.proofs.lemmas.Bool.Decides.{Decides-int_eq, nat_tests}
use Rattle.std.proofs.lemmas.List.Elements.{All-nil, All-cons, All-head, All-tail}
use Rattle.rr_model.specs.Calendar.{year_of, month_of, day_of_month, days_in_month}
use Rattle.rr_model.specs.Moment.{day_part, second_part}
use Rattle.rr_model.specs.Moment.Units.{month_number, first_day_of_month, unit_number}
use Rattle.rr_model.specs.Rule.Candidate.{by_month_holds, by_week_no_holds, by_year_day_holds, by_month_day_holds, by_day_holds}
use Rattle.rr_model.specs.Rule.Candidate.{lists, allows_signed, interval_holds, time_parts_hold, is_candidate}
use Rattle.rr_model.specs.Rule.Chosen.{by_set_pos_holds, is_chosen}
use Rattle.rr_model.specs.Rule.Filled.{filled_part, wants_hour, wants_minute, wants_second, wants_day, wants_month_day, day_item_of, filled_rule}
use Rattle.rr_model.specs.Rule.Member.{IsWithinEnd, members_to}
use Rattle.rr_model.specs.Rule.Validity.{is_absent}
use Rattle.rr_model.specs.declared.kind.Kind.{Kind}
use Rattle.rr_model.specs.declared.kind.Kind.TheVariants.{Days, Moments}
use Rattle.rr_model.specs.declared.rule.Freq.{Freq}
use Rattle.rr_model.specs.declared.rule.Freq.TheVariants.{Secondly, Minutely, Hourly, Daily, Weekly, Monthly, Yearly}
use Rattle.rr_model.specs.declared.rule.Rule.{Rule}
use Rattle.rr_model.proofs.CalendarLemmas.{IsDate-year_of}
use Rattle.rr_model.proofs.DaysAndTimesLemmas.{date_parts_hold-day}
use Rattle.rr_model.proofs.CountLemmas.{count_from-same}
use Rattle.rr_model.proofs.TestLemmas.{without_or}
use Rattle.rr_skip.specs.Laws.{OmittingIsPlain}
use Rattle.rr_skip.specs.Members.{skip_members_to}
use Rattle.rr_skip.specs.Months.{unit_of_month, length_of_month, schedule_of, is_due, falls_at, some_falls_on, is_day_chosen}
use Rattle.rr_skip.specs.Months.{is_skip_chosen}
use Rattle.rr_skip.specs.Validity.{HasMonthPartsAlone, takes_skip}
use Rattle.rr_skip.specs.declared.schedule.Schedule.{Schedule}
use Rattle.rr_skip.specs.declared.series.Skip.TheVariants.{Omit}
use Rattle.rr_skip.specs.declared.series.SkipRule.{SkipRule}
use Rattle.rr_skip.proofs.MonthLemmas.{month_ends, in_month, year_of_month, month_in_year, length_of_own, offset_in_month}

-- ---- lists

any_same : {X : Type 0} (p q : X → Bool) (xs : List X) → All (λ x. p x ≡ q x) xs → list_any p xs ≡ list_any q xs
any_same p q [] all = refl
any_same p q (x ∷ xs) all = rw (All-head (λ y. p y ≡ q y) x xs all, any_same p q xs (All-tail (λ y. p y ≡ q y) x xs all)) refl

-- ---- what such a rule takes from its start

module _ (rule : Rule) (alone : HasMonthPartsAlone rule) where
  no_day : (freq : Freq) → IsTrue (takes_skip freq) → wants_day freq rule ≡ false
  no_day Monthly taken = refl
  no_day Yearly taken = rw alone.week_numbers refl
  no_day Secondly taken = absurd (false≢true taken)
  no_day Minutely taken = absurd (false≢true taken)
  no_day Hourly taken = absurd (false≢true taken)
  no_day Daily taken = absurd (false≢true taken)
  no_day Weekly taken = absurd (false≢true taken)

  month_day_wanted : (freq : Freq) → IsTrue (takes_skip freq) → wants_month_day freq rule ≡ true
  month_day_wanted Monthly taken = rw alone.days refl
  month_day_wanted Yearly taken = rw (alone.week_numbers, alone.year_days, alone.days) refl
  month_day_wanted Secondly taken = absurd (false≢true taken)
  month_day_wanted Minutely taken = absurd (false≢true taken)
  month_day_wanted Hourly taken = absurd (false≢true taken)
  month_day_wanted Daily taken = absurd (false≢true taken)
  month_day_wanted Weekly taken = absurd (false≢true taken)

times_wanted : (freq : Freq) → IsTrue (takes_skip freq) → (wants_hour freq ≡ true) × (wants_minute freq ≡ true) × (wants_second freq ≡ true)
times_wanted Monthly taken = (refl, refl, refl)
times_wanted Yearly taken = (refl, refl, refl)
times_wanted Secondly taken = absurd (false≢true taken)
times_wanted Minutely taken = absurd (false≢true taken)
times_wanted Hourly taken = absurd (false≢true taken)
times_wanted Daily taken = absurd (false≢true taken)
times_wanted Weekly taken = absurd (false≢true taken)

-- a wanted part has a number
some_filled : (values : List ℤ) (own : ℤ) → is_absent (filled_part true values own) ≡ false
some_filled [] own = refl
some_filled (x ∷ xs) own = refl

front_filled : (values : List ℤ) (own : ℤ) → pos 1 ≤ℤ own → All (λ k. pos 1 ≤ℤ k) values → All (λ k. pos 1 ≤ℤ k) (filled_part true values own)
front_filled [] own low all = All-cons (λ k. pos 1 ≤ℤ k) own [] low (All-nil (λ k. pos 1 ≤ℤ k))
front_filled (x ∷ xs) own low all = all

-- ---- days

-- the unit of a day's month is the day's
unit_same : (freq : Freq) (w : ℕ) (kind : Kind) (t : ℤ) → IsTrue (takes_skip freq)
    → unit_of_month freq (month_number (day_part kind t)) ≡ unit_number freq w kind t
unit_same Monthly w kind t taken = refl
unit_same Yearly w kind t taken = year_of_month (day_part kind t)
unit_same Secondly w kind t taken = absurd (false≢true taken)
unit_same Minutely w kind t taken = absurd (false≢true taken)
unit_same Hourly w kind t taken = absurd (false≢true taken)
unit_same Daily w kind t taken = absurd (false≢true taken)
unit_same Weekly w kind t taken = absurd (false≢true taken)

-- a day of a month falls at its own offset alone
falls_own : (many : ℕ) (offset k : ℤ) (dom : ℕ) → offset +ℤ pos 1 ≡ pos dom → dom ≤ many → falls_at Omit many offset k ≡ int_eq k (pos dom)
falls_own many offset k dom e low = by (int_le k (pos many)) refl
  where
    by : (b : Bool) → int_le k (pos many) ≡ b → cond b (int_eq (offset +ℤ pos 1) k) false ≡ int_eq k (pos dom)
    by true l = grind (arith, ints, e)
    by false l = grind (arith, ints)

-- and at none past its month
falls_past : (many : ℕ) (offset k : ℤ) → pos many ≤ℤ offset → falls_at Omit many offset k ≡ false
falls_past many offset k past = by (int_le k (pos many)) refl
  where
    by : (b : Bool) → int_le k (pos many) ≡ b → cond b (int_eq (offset +ℤ pos 1) k) false ≡ false
    by true l = grind (arith, ints)
    by false l = refl

module _ (days : List ℤ) (front : All (λ k. pos 1 ≤ℤ k) days) where
  -- from the back none is listed
  none_from_back : (z : ℤ) → z ≤ℤ pos 0 → lists days z ≡ false
  none_from_back z low = list_any_none (λ x. int_eq x z) days (λ i d l. (let f = front i d l in grind (arith, ints)))

  place_allowed : (k many : ℕ) → is_absent days ≡ false → k ≤ many → allows_signed days (pos k) (pos many) ≡ lists days (pos k)
  place_allowed k many some low =
      let none = none_from_back ((pos k -ℤ pos many) -ℤ pos 1) (omega (arith, ints)) in
      rw (some, none) (or-false (lists days (pos k)))

-- ---- seconds

time_parts_are : (s u : ℕ) → u / 3_600 ≡ s / 3_600 → u / 60 % 60 ≡ s / 60 % 60 → u % 60 ≡ s % 60 → s ≡ u
time_parts_are s u h m c = omega arith

same_number : (a b : ℕ) → int_eq (pos a) (pos b) ≡ true → a ≡ b
same_number a b h = let e = (Decides-int_eq (pos a) (pos b)).0 h in omega (arith, ints, e)

equal_number : (a : ℕ) → int_eq (pos a) (pos a) ≡ true
equal_number a = (Decides-int_eq (pos a) (pos a)).1 refl

second_same : (s u : ℕ) → (int_eq (pos (u / 3_600)) (pos (s / 3_600)) && int_eq (pos (u / 60 % 60)) (pos (s / 60 % 60)) && int_eq (pos (u % 60)) (pos (s % 60)))
    ≡ (s == u)
second_same s u =
    let h = int_eq (pos (u / 3_600)) (pos (s / 3_600)) in
    let m = int_eq (pos (u / 60 % 60)) (pos (s / 60 % 60)) in
    let c = int_eq (pos (u % 60)) (pos (s % 60)) in
    both_ways (h && m && c) (s == u)
    (λ e. (let p = and_parts (h && m) c e in let q = and_parts h m p.0 in
    eq-eqb s u (time_parts_are s u (same_number (u / 3_600) (s / 3_600) q.0) (same_number (u / 60 % 60) (s / 60 % 60) q.1) (same_number (u % 60) (s % 60) p.1))))
    (λ e. (let same : s ≡ u = grind (arith, nat_tests) in
    rw (same, equal_number (u / 3_600), equal_number (u / 60 % 60), equal_number (u % 60)) refl))

-- ---- the rule

last_step : (a b c e x : Bool) → (a && (b && true && true && c && true) && e) ≡ (((a && b) && c || (x && false)) && e)
last_step true true true true true = refl
last_step true true true true false = refl
last_step true true true false true = refl
last_step true true true false false = refl
last_step true true false e true = refl
last_step true true false e false = refl
last_step true false c e true = refl
last_step true false c e false = refl
last_step false b c e true = refl
last_step false b c e false = refl

module _ (rule : Rule) (kind : Kind) (start t : ℤ) (taken : IsTrue (takes_skip rule.freq)) (alone : HasMonthPartsAlone rule)
    (front : All (λ k. pos 1 ≤ℤ k) rule.by_month_day) where
  -- the days of the start and of the moment
  abbrev start_day : ℤ
  start_day = day_part kind start

  abbrev day : ℤ
  day = day_part kind t

  -- the rule with what it takes from its start
  abbrev full : Rule
  full = filled_rule rule Days start_day

  abbrev schedule : Schedule
  schedule = schedule_of (record { skip = Omit; rule = rule }) start_day

  wanted : filled_part (wants_month_day rule.freq rule) rule.by_month_day (pos (day_of_month start_day))
      ≡ filled_part true rule.by_month_day (pos (day_of_month start_day))
  wanted = ap (λ b. filled_part b rule.by_month_day (pos (day_of_month start_day))) (month_day_wanted rule alone rule.freq taken)

  some_day : is_absent full.by_month_day ≡ false
  some_day = ap (λ (xs : List ℤ). is_absent xs) wanted ∙ some_filled rule.by_month_day (pos (day_of_month start_day))

  front_days : All (λ k. pos 1 ≤ℤ k) full.by_month_day
  front_days =
      let low = (IsDate-year_of start_day).2 in
      subst (All (λ k. pos 1 ≤ℤ k)) (sym wanted) (front_filled rule.by_month_day (pos (day_of_month start_day)) (omega (arith, ints, low)) front)

  no_weekdays : full.by_day ≡ []
  no_weekdays = ap (λ b. filled_part b rule.by_day (day_item_of start_day)) (no_day rule alone rule.freq taken) ∙ alone.days

  -- ---- the date parts

  weeks : by_week_no_holds full day ≡ true
  weeks = rw alone.week_numbers refl

  year_days : by_year_day_holds full day ≡ true
  year_days = rw alone.year_days refl

  weekdays : by_day_holds full day ≡ true
  weekdays = rw no_weekdays refl

  month_days : by_month_day_holds full day ≡ lists full.by_month_day (pos (day_of_month day))
  month_days = place_allowed full.by_month_day front_days (day_of_month day) (days_in_month (year_of day) (month_of day)) some_day (IsDate-year_of day).3

  -- ---- the months

  some_own : some_falls_on schedule (month_number day) day ≡ lists full.by_month_day (pos (day_of_month day))
  some_own =
      let n = month_number day in
      let low : day_of_month day ≤ length_of_month n = omega (arith, (IsDate-year_of day).3, length_of_own day) in
      any_same (falls_at Omit (length_of_month n) (day -ℤ first_day_of_month n)) (λ k. int_eq k (pos (day_of_month day))) full.by_month_day
      (λ i x l. falls_own (length_of_month n) (day -ℤ first_day_of_month n) _ (day_of_month day) (offset_in_month day) low)

  some_past : some_falls_on schedule (month_number day -ℤ pos 1) day ≡ false
  some_past =
      let n = month_number day -ℤ pos 1 in
      let next : n +ℤ pos 1 ≡ month_number day = omega (arith, ints) in
      let s = ((in_month day (month_number day)).0 refl).0 in
      let past : pos (length_of_month n) ≤ℤ (day -ℤ first_day_of_month n) = omega (arith, ints, s, ap first_day_of_month next, month_ends n) in
      list_any_none (falls_at Omit (length_of_month n) (day -ℤ first_day_of_month n)) full.by_month_day
      (λ i x l. falls_past (length_of_month n) (day -ℤ first_day_of_month n) _ past)

  due_own : is_due schedule (month_number day) ≡ (interval_holds rule kind start t && by_month_holds full day)
  due_own =
      let u = unit_same rule.freq rule.week_start kind t taken in
      let v = unit_same rule.freq rule.week_start kind start taken in
      rw (u, v, month_in_year day) refl

  -- ---- the time parts

  times : (k : Kind) → time_parts_hold (filled_rule rule k start) k t ≡ (second_part k t == second_part k start)
  times Days = refl
  times Moments =
      let w = times_wanted rule.freq taken in
      rw (alone.hours, alone.minutes, alone.seconds, w.0, w.1, w.2)
      (without_or _ _ _ ∙ second_same (second_part Moments t) (second_part Moments start))

  -- ---- what is chosen

  candidate_is : is_candidate rule kind start t ≡ is_skip_chosen (record { skip = Omit; rule = rule }) kind start t
  unfolding is_candidate is_day_chosen
  candidate_is =
      let dates = date_parts_hold-day rule kind start day in
      rw (dates, weeks, year_days, month_days, weekdays, times kind, due_own, some_own, some_past)
      (last_step (interval_holds rule kind start t) (by_month_holds full day) (lists full.by_month_day (pos (day_of_month day)))
      (second_part kind t == second_part kind start) (is_due schedule (month_number day -ℤ pos 1)))

  positions : by_set_pos_holds rule kind start t ≡ true
  positions = rw alone.set_positions refl

  pub chosen_same : is_skip_chosen (record { skip = Omit; rule = rule }) kind start t ≡ is_chosen rule kind start t
  unfolding is_chosen
  chosen_same =
      let c = is_candidate rule kind start t in
      sym candidate_is ∙ sym (and-true c) ∙ ap (λ b. c && b) (sym positions)

pub omitting_is_plain : OmittingIsPlain
omitting_is_plain rule kind start t taken alone front =
    let same = λ (u : ℤ). chosen_same rule kind start u taken alone front in
    let plain : SkipRule = record { skip = Omit; rule = rule } in
    let count : skip_members_to plain kind start t ≡ members_to rule kind start t =
    count_from-same (is_skip_chosen plain kind start) (is_chosen rule kind start) start (nat_abs ((t -ℤ start) +ℤ pos 1)) (λ u l h. same u) in (
      λ m. record {
        chosen = sym (same t) ∙ m.chosen;
        not_before = m.not_before;
        within_end = subst (IsWithinEnd rule.end kind t) count m.within_end;
      },
      λ m. record {
        chosen = same t ∙ m.chosen;
        not_before = m.not_before;
        within_end = subst (IsWithinEnd rule.end kind t) (sym count) m.within_end;
      },
    )
