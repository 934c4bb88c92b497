-- The chosen moments of a valid rule repeat with its cycle.
use Rattle.std.proofs.Common.{◌≡◌, ◌⊎◌, inl, inr, ℕ, suc, ◌*◌, ◌/◌, ◌≤◌, Bool, true, false, cond, not, ◌&&◌, ◌||◌, List, [], ◌∷◌, ℤ, pos, negsuc}
use Rattle.std.proofs.Common.{◌+ℤ◌, ◌*ℤ◌, refl, sym, ap, ◌∙◌, subst, arith}
use Prim.Native.Nat.{◌∣◌}
use Rattle.std.proofs.lemmas.Int.{ints}
use Rattle.std.proofs.lemmas.Bool.{false≢true, and_parts, not-true, cases_Bool, cond-true, cond-false, cond_both}
use Rattle.std.proofs.lemmas.Nat.Gcd.{dvd_trans}
use Rattle.std.proofs.Math.Nat.{dvd-mul_right}
use Rattle.rr_model.specs.Moment.{day_part}
use Rattle.rr_model.specs.Calendar.Laws.{later_day}
use Rattle.rr_model.specs.Rule.Validity.{is_absent, has_ordinals, has_part, takes_year_days, takes_month_days, takes_week_numbers, takes_ordinals, is_allowed}
use Rattle.rr_model.specs.Rule.Validity.{IsValidRule}
use Rattle.rr_model.specs.Whole.Divisors.{gcd, lcm}
use Rattle.rr_model.specs.Rule.Cycle.{interval_cycle, asks_calendar, rule_cycle}
use Rattle.rr_model.specs.Rule.Filled.{filled_part, wants_day, wants_month_day, wants_month, day_item_of, filled_rule}
use Rattle.rr_model.specs.Rule.Candidate.{date_parts_hold, time_parts_hold}
use Rattle.rr_model.specs.Rule.Chosen.{is_chosen}
use Rattle.rr_model.specs.Rule.Repetition.{days_in, later_moment, ChosenRepeats}
use Rattle.rr_model.specs.declared.kind.Kind.{Kind}
use Rattle.rr_model.specs.declared.kind.Kind.TheVariants.{Days, Moments}
use Rattle.rr_model.specs.declared.rule.DayItem.{DayItem}
use Rattle.rr_model.specs.declared.rule.Freq.{Freq}
use Rattle.rr_model.specs.declared.rule.Freq.TheVariants.{Secondly, Minutely, Hourly, Daily, Weekly, Monthly, Yearly}
use Rattle.rr_model.specs.declared.rule.Rule.{Rule}
use Rattle.rr_model.proofs.CalendarLawProofs.{calendar_repeats}
use Rattle.rr_model.proofs.DividesLemmas.{divides-add}
use Rattle.rr_num.proofs.DivisorLemmas.{lcm_is, lcm_some}
use Rattle.rr_check.proofs.ShiftLemmas.{KeepsRule, is_chosen-shift}
use Rattle.rr_check.proofs.PartLemmas.{AsksNoCalendar, date_parts-cycle, date_parts-weeks, date_parts-any}
use Rattle.rr_check.proofs.UnitLemmas.{day_part-shift, second_part-shift, unit_number-shift, unit_start-shift}
use Rattle.rr_check.proofs.RuleCycleLemmas.{whole_times, whole_intervals, interval_cycle_some}

-- ---- what a frequency has

-- What a frequency that follows no calendar takes from the start, and that it takes no places.
record IsPlain (freq : Freq) (rule : Rule) (n c : ℕ) : Type 0 where
  no_month : wants_month freq rule ≡ false
  no_month_day : wants_month_day freq rule ≡ false
  no_places : (b : Bool) → takes_ordinals freq b ≡ false
  weeks : (7 ∣ c) ⊎ (wants_day freq rule ≡ false)

frequency : (freq : Freq) (rule : Rule) (n c : ℕ) → interval_cycle freq n ∣ c → (146_097 ∣ c) ⊎ IsPlain freq rule n c
frequency Secondly rule n c h = inr (record { no_month = refl; no_month_day = refl; no_places = λ b. refl; weeks = inr refl })
frequency Minutely rule n c h = inr (record { no_month = refl; no_month_day = refl; no_places = λ b. refl; weeks = inr refl })
frequency Hourly rule n c h = inr (record { no_month = refl; no_month_day = refl; no_places = λ b. refl; weeks = inr refl })
frequency Daily rule n c h = inr (record { no_month = refl; no_month_day = refl; no_places = λ b. refl; weeks = inr refl })
frequency Weekly rule n c h = inr (record { no_month = refl; no_month_day = refl; no_places = λ b. refl; weeks = inl (dvd_trans 7 (dvd-mul_right 7 n) h) })
frequency Monthly rule n c h = inl (dvd_trans 146_097 (dvd-mul_right 146_097 (n / gcd n 4_800)) h)
frequency Yearly rule n c h = inl (dvd_trans 146_097 (dvd-mul_right 146_097 (n / gcd n 400)) h)

-- ---- the filled rule, if nothing follows the calendar

unfilled : {X : Type 0} (b : Bool) (values : List X) (own : X) → b ≡ false → is_absent values ≡ true → is_absent (filled_part b values own) ≡ true
unfilled b values own e h = rw e h

-- the start's weekday has no number
still_plain : (b : Bool) (items : List DayItem) (d : ℤ) → has_ordinals items ≡ false → has_ordinals (filled_part b items (day_item_of d)) ≡ false
still_plain true [] d h = refl
still_plain true (item ∷ items) d h = h
still_plain false items d h = h

-- none of four parts is present
four_absent : (a b c d : Bool) → not (a && b && c && d) ≡ false → (a ≡ true) × (b ≡ true) × (c ≡ true) × (d ≡ true)
four_absent true true true true h = (refl, refl, refl, refl)
four_absent true true true false h = absurd (false≢true (sym h))
four_absent true true false d h = absurd (false≢true (sym h))
four_absent true false c d h = absurd (false≢true (sym h))
four_absent false b c d h = absurd (false≢true (sym h))

-- an allowed rule has no place if its frequency takes none
no_place : (rule : Rule) → is_allowed rule ≡ true → takes_ordinals rule.freq (is_absent rule.by_week_no) ≡ false → has_ordinals rule.by_day ≡ false
no_place rule allowed none =
    let x = takes_ordinals rule.freq (is_absent rule.by_week_no) in
    let y = not (has_ordinals rule.by_day) in
    let a = takes_year_days rule.freq || is_absent rule.by_year_day in
    let b = takes_month_days rule.freq || is_absent rule.by_month_day in
    let c = takes_week_numbers rule.freq || is_absent rule.by_week_no in
    let four = (and_parts (a && b && c && (x || y)) (has_part rule || is_absent rule.by_set_pos) allowed).0 in
    let fourth : (x || y) ≡ true = (and_parts (a && b && c) (x || y) four).1 in
    let e : y ≡ true = rw none at fourth in
    not-true (has_ordinals rule.by_day) e

-- ---- the shift

module _ (rule : Rule) (kind : Kind) (start : ℤ) (valid : IsValidRule kind rule) (c : ℕ) (of_interval : interval_cycle rule.freq rule.interval ∣ c)
    (of_weeks : cond (is_absent rule.by_day) 1 7 ∣ c) (of_calendar : cond (asks_calendar rule) 146_097 1 ∣ c) where
  by_calendar : 146_097 ∣ c → (d : ℤ) → date_parts_hold (filled_rule rule kind start) (d +ℤ pos c) ≡ date_parts_hold (filled_rule rule kind start) d
  by_calendar h d =
      let w = whole_times 146_097 c h in
      let e : d +ℤ pos c ≡ later_day (pos w.0) d = omega (arith, ints, w.1) in
      ap (date_parts_hold (filled_rule rule kind start)) e ∙ date_parts-cycle calendar_repeats (pos w.0) d (filled_rule rule kind start)

  by_weeks : AsksNoCalendar (filled_rule rule kind start) → 7 ∣ c → (d : ℤ)
      → date_parts_hold (filled_rule rule kind start) (d +ℤ pos c) ≡ date_parts_hold (filled_rule rule kind start) d
  by_weeks none h d =
      let w = whole_times 7 c h in
      let e : d +ℤ pos c ≡ d +ℤ (pos w.0 *ℤ pos 7) = omega (arith, ints, w.1) in
      ap (date_parts_hold (filled_rule rule kind start)) e ∙ date_parts-weeks (filled_rule rule kind start) d (pos w.0) none

  none_asked : IsPlain rule.freq rule rule.interval c → asks_calendar rule ≡ false → AsksNoCalendar (filled_rule rule kind start)
  none_asked plain asks =
      let four = four_absent (is_absent rule.by_month) (is_absent rule.by_month_day) (is_absent rule.by_year_day) (is_absent rule.by_week_no) asks in
      record {
        by_month = unfilled (wants_month rule.freq rule) rule.by_month _ plain.no_month four.0;
        by_week_no = four.3;
        by_year_day = four.2;
        by_month_day = unfilled (wants_month_day rule.freq rule) rule.by_month_day _ plain.no_month_day four.1;
        by_day = still_plain (wants_day rule.freq rule) rule.by_day (day_part kind start)
            (no_place rule valid.parts (plain.no_places (is_absent rule.by_week_no)));
      }

  plain_days : IsPlain rule.freq rule rule.interval c → asks_calendar rule ≡ false → (d : ℤ)
      → date_parts_hold (filled_rule rule kind start) (d +ℤ pos c) ≡ date_parts_hold (filled_rule rule kind start) d
  plain_days plain asks d =
      let none = none_asked plain asks in
      elim (plain.weeks) [
        | inl h ↦ by_weeks none h d
        | inr unwanted ↦ elim (cases_Bool (is_absent rule.by_day)) [
          | inl absent ↦ date_parts-any (filled_rule rule kind start) d (d +ℤ pos c) none (unfilled (wants_day rule.freq rule) rule.by_day _ unwanted absent)
          | inr present ↦ by_weeks none (subst (λ z. z ∣ c) (cond-false (is_absent rule.by_day) 1 7 present) of_weeks) d
        ]
      ]

  same_days : (d : ℤ) → date_parts_hold (filled_rule rule kind start) (d +ℤ pos c) ≡ date_parts_hold (filled_rule rule kind start) d
  same_days d =
      elim (frequency rule.freq rule rule.interval c of_interval) [
        | inl h ↦ by_calendar h d
        | inr plain ↦ elim (cases_Bool (asks_calendar rule)) [
          | inl asks ↦ by_calendar (subst (λ z. z ∣ c) (cond-true (asks_calendar rule) 146_097 1 asks) of_calendar) d
          | inr asks ↦ plain_days plain asks d
        ]
      ]

  same_times : (t : ℤ) → time_parts_hold (filled_rule rule kind start) kind (t +ℤ days_in kind (pos c)) ≡ time_parts_hold (filled_rule rule kind start) kind t
  same_times t = rw (second_part-shift kind t (pos c)) refl

  pub keeps_rule : (k : ℕ) × KeepsRule rule kind start (days_in kind (pos c)) (pos k *ℤ pos rule.interval)
  keeps_rule =
      let w = whole_intervals rule.freq kind rule.interval c valid.start of_interval in (
        w.0,
        record {
          number = unit_number-shift rule.freq rule.week_start kind (pos c) (pos w.0 *ℤ pos rule.interval) w.1;
          begin = unit_start-shift rule.freq rule.week_start kind (pos c) (pos w.0 *ℤ pos rule.interval) w.1;
          interval = λ x. divides-add rule.interval x (pos w.0) valid.interval_low;
          date_parts = λ t. ap (date_parts_hold (filled_rule rule kind start)) (day_part-shift kind t (pos c)) ∙ same_days (day_part kind t);
          time_parts = same_times;
        },
      )

-- with its cycle, and with each multiple of it
pub chosen_repeats_by : (rule : Rule) (kind : Kind) (start t : ℤ) → IsValidRule kind rule → (c : ℕ) → rule_cycle rule ∣ c
    → is_chosen rule kind start (t +ℤ days_in kind (pos c)) ≡ is_chosen rule kind start t
chosen_repeats_by rule kind start t valid c of_cycle =
    let n = interval_cycle rule.freq rule.interval in
    let w : ℕ = cond (is_absent rule.by_day) 1 7 in
    let y : ℕ = cond (asks_calendar rule) 146_097 1 in
    let hn : 1 ≤ n = interval_cycle_some rule.freq rule.interval valid.interval_low in
    let hw : 1 ≤ w = cond_both (is_absent rule.by_day) 1 7 (λ z. 1 ≤ z) (λ _. omega arith) (λ _. omega arith) in
    let hy : 1 ≤ y = cond_both (asks_calendar rule) 146_097 1 (λ z. 1 ≤ z) (λ _. omega arith) (λ _. omega arith) in
    let parts = lcm_is w y hw hy in
    let whole = lcm_is n (lcm w y) hn (lcm_some w y hw hy) in
    let of_parts : lcm w y ∣ c = dvd_trans (lcm w y) whole.1 of_cycle in
    let keeps = keeps_rule rule kind start valid c (dvd_trans n whole.0 of_cycle) (dvd_trans w parts.0 of_parts) (dvd_trans y parts.1 of_parts) in
    is_chosen-shift rule kind start (days_in kind (pos c)) (pos keeps.0 *ℤ pos rule.interval) keeps.1 t

-- ---- any whole number of cycles

-- n cycles, from 0
module _ (rule : Rule) (kind : Kind) (start : ℤ) (valid : IsValidRule kind rule) where
  cycles_later : (k : ℕ) (t : ℤ) → is_chosen rule kind start (t +ℤ days_in kind (pos (rule_cycle rule * k))) ≡ is_chosen rule kind start t
  cycles_later k t = chosen_repeats_by rule kind start t valid (rule_cycle rule * k) (dvd-mul_right (rule_cycle rule) k)

-- a number of days earlier, and as many later
pub there_and_back : (kind : Kind) (c k : ℕ) (t : ℤ) → (t +ℤ days_in kind (pos c *ℤ negsuc k)) +ℤ days_in kind (pos (c * suc k)) ≡ t
there_and_back Days c k t = omega (arith, ints)
there_and_back Moments c k t = omega (arith, ints)

pub chosen_repeats : ChosenRepeats
chosen_repeats rule kind start (pos k) t valid = cycles_later rule kind start valid k t
chosen_repeats rule kind start (negsuc k) t valid =
    let earlier = later_moment rule kind (negsuc k) t in
    sym (cycles_later rule kind start valid (suc k) earlier) ∙ ap (is_chosen rule kind start) (there_and_back kind (rule_cycle rule) k t)
