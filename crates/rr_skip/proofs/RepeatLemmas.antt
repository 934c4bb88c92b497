-- The chosen moments of a rule with SKIP repeat with its cycle.
use Rattle.std.proofs.Common.{◌≡◌, ℕ, suc, ◌+◌, ◌*◌, ◌≤◌, ℤ, pos, negsuc, ◌+ℤ◌, ◌-ℤ◌, ◌*ℤ◌, refl, sym, ap, ◌∙◌, arith}
use Prim.Native.Nat.{◌∣◌}
use Rattle.std.specs.Prelude.{IsTrue}
use Rattle.std.proofs.lemmas.Bool.{false≢true, cond_both}
use Rattle.std.proofs.lemmas.Int.{ints}
use Rattle.std.proofs.lemmas.Nat.Gcd.{dvd_trans}
use Rattle.std.proofs.Math.Nat.{dvd-mul_right}
use Rattle.rr_model.specs.Whole.{floor_div, floor_mod}
use Rattle.rr_model.specs.Moment.{day_part}
use Rattle.rr_model.specs.Moment.Units.{month_number, first_day_of_month}
use Rattle.rr_model.specs.Rule.Cycle.{interval_cycle, asks_calendar, parts_cycle, rule_cycle}
use Rattle.rr_model.specs.Rule.Repetition.{days_in}
use Rattle.rr_model.specs.Rule.Validity.{is_absent}
use Rattle.rr_model.specs.declared.kind.Kind.{Kind}
use Rattle.rr_model.specs.declared.kind.Kind.TheVariants.{Days}
use Rattle.rr_model.specs.declared.rule.Freq.{Freq}
use Rattle.rr_model.specs.declared.rule.Freq.TheVariants.{Secondly, Minutely, Hourly, Daily, Weekly, Monthly, Yearly}
use Rattle.rr_model.specs.declared.rule.Rule.{Rule}
use Rattle.rr_model.proofs.CalendarLawProofs.{calendar_repeats}
use Rattle.rr_model.proofs.FloorLemmas.{floor_div-add, floor_mod-add}
use Rattle.rr_model.proofs.DividesLemmas.{divides-add}
use Rattle.rr_num.proofs.DivisorLemmas.{lcm_is, lcm_some}
use Rattle.rr_check.proofs.RuleCycleLemmas.{whole_intervals, interval_cycle_some}
use Rattle.rr_check.proofs.UnitLemmas.{day_part-shift, second_part-shift, unit_start-shift, month_number-cycle}
use Rattle.rr_check.proofs.RepetitionLemmas.{there_and_back}
use Rattle.rr_skip.specs.Laws.{SkipChosenRepeats}
use Rattle.rr_skip.specs.Months.{unit_of_month, month_of_year, length_of_month, schedule_of, is_due, gives_day, is_day_chosen}
use Rattle.rr_skip.specs.Months.{is_skip_chosen}
use Rattle.rr_skip.specs.Validity.{takes_skip}
use Rattle.rr_skip.specs.declared.schedule.Schedule.{Schedule}
use Rattle.rr_skip.specs.declared.series.SkipRule.{SkipRule}

-- ---- months over cycles of the calendar

module _ (n c : ℤ) where
  later_month : ℤ
  later_month = n +ℤ (pos 4_800 *ℤ c)

  as_years : n +ℤ (pos 4_800 *ℤ c) ≡ n +ℤ ((pos 400 *ℤ c) *ℤ pos 12)
  as_years = omega (arith, ints)

  year-cycle : floor_div (n +ℤ (pos 4_800 *ℤ c)) 12 ≡ floor_div n 12 +ℤ (pos 400 *ℤ c)
  year-cycle = ap (λ z. floor_div z 12) as_years ∙ floor_div-add n (pos 400 *ℤ c) 12 (omega arith)

  number-cycle : month_of_year (n +ℤ (pos 4_800 *ℤ c)) ≡ month_of_year n
  number-cycle = ap (λ z. floor_mod z 12 + 1) as_years ∙ ap (λ z. z + 1) (floor_mod-add n (pos 400 *ℤ c) 12 (omega arith))

  length-cycle : length_of_month (n +ℤ (pos 4_800 *ℤ c)) ≡ length_of_month n
  length-cycle = rw (number-cycle, year-cycle) ((calendar_repeats.years c (floor_div n 12)).days_in_months (month_of_year n))

  first-cycle : first_day_of_month (n +ℤ (pos 4_800 *ℤ c)) ≡ first_day_of_month n +ℤ (pos 146_097 *ℤ c)
  first-cycle = unit_start-shift Monthly 0 Days (pos 146_097 *ℤ c) (pos 4_800 *ℤ c) (c, (refl, refl)) n

-- ---- a schedule over cycles that are whole intervals

-- `c` cycles of the calendar, of 400 years each, keep which months are due
abbrev pub KeepsDue : Schedule → ℤ → Type 0
KeepsDue schedule c = (n : ℤ) → is_due schedule (n +ℤ (pos 4_800 *ℤ c)) ≡ is_due schedule n

module _ (schedule : Schedule) (c : ℤ) (keeps : KeepsDue schedule c) where
  gives-cycle : (n d : ℤ) → gives_day schedule (n +ℤ (pos 4_800 *ℤ c)) (d +ℤ (pos 146_097 *ℤ c)) ≡ gives_day schedule n d
  gives-cycle n d =
      let offset : (d +ℤ (pos 146_097 *ℤ c)) -ℤ first_day_of_month (n +ℤ (pos 4_800 *ℤ c)) ≡ d -ℤ first_day_of_month n = omega (arith, ints, first-cycle n c) in
      rw (keeps n, length-cycle n c, offset) refl

  pub day-cycle : (d : ℤ) → is_day_chosen schedule (d +ℤ (pos 146_097 *ℤ c)) ≡ is_day_chosen schedule d
  unfolding is_day_chosen
  day-cycle d =
      let m = month_number-cycle d c in
      let before : (month_number d +ℤ (pos 4_800 *ℤ c)) -ℤ pos 1 ≡ (month_number d -ℤ pos 1) +ℤ (pos 4_800 *ℤ c) = omega (arith, ints) in
      rw (m, before, gives-cycle (month_number d) d, gives-cycle (month_number d -ℤ pos 1) d) refl

-- ---- the cycle of a rule

-- the parts of a rule repeat after a day at least
parts_some : (rule : Rule) → 1 ≤ parts_cycle rule
parts_some rule = lcm_some _ _ (cond_both (is_absent rule.by_day) 1 7 (λ z. 1 ≤ z) (λ _. omega arith) (λ _. omega arith))
    (cond_both (asks_calendar rule) 146_097 1 (λ z. 1 ≤ z) (λ _. omega arith) (λ _. omega arith))

-- the days of a cycle are whole cycles of the calendar, and whole intervals of the rule's units
pub record IsWholeCycles (freq : Freq) (interval days : ℕ) : Type 0 where
  pub cycles : ℤ
  pub of_days : pos days ≡ pos 146_097 *ℤ cycles
  pub intervals : ℤ
  pub of_units : (n : ℤ) → unit_of_month freq (n +ℤ (pos 4_800 *ℤ cycles)) ≡ unit_of_month freq n +ℤ (intervals *ℤ pos interval)

whole_cycles : (freq : Freq) (interval days : ℕ) → IsTrue (takes_skip freq) → interval_cycle freq interval ∣ days → IsWholeCycles freq interval days
whole_cycles Monthly interval days taken h =
    let w = whole_intervals Monthly Days interval days refl h in
    record { cycles = w.1.0; of_days = w.1.1.0; intervals = pos w.0; of_units = λ n. ap (λ z. n +ℤ z) (sym w.1.1.1) }
whole_cycles Yearly interval days taken h =
    let w = whole_intervals Yearly Days interval days refl h in
    record {
      cycles = w.1.0;
      of_days = w.1.1.0;
      intervals = pos w.0;
      of_units = λ n. year-cycle n w.1.0 ∙ ap (λ z. floor_div n 12 +ℤ z) (sym w.1.1.1);
    }
whole_cycles Secondly interval days taken h = absurd (false≢true taken)
whole_cycles Minutely interval days taken h = absurd (false≢true taken)
whole_cycles Hourly interval days taken h = absurd (false≢true taken)
whole_cycles Daily interval days taken h = absurd (false≢true taken)
whole_cycles Weekly interval days taken h = absurd (false≢true taken)

module _ (schedule : Schedule) (days : ℕ) (some : 1 ≤ schedule.interval) (whole : IsWholeCycles schedule.freq schedule.interval days) where
  keeps_due : KeepsDue schedule whole.cycles
  keeps_due n =
      let u = unit_of_month schedule.freq n in
      let e : unit_of_month schedule.freq (n +ℤ (pos 4_800 *ℤ whole.cycles)) -ℤ schedule.start_unit
      ≡ (u -ℤ schedule.start_unit) +ℤ (whole.intervals *ℤ pos schedule.interval) = omega (arith, ints, whole.of_units n) in
      rw (e, divides-add schedule.interval (u -ℤ schedule.start_unit) whole.intervals some, number-cycle n whole.cycles) refl

  pub days_repeat : (d : ℤ) → is_day_chosen schedule (d +ℤ pos days) ≡ is_day_chosen schedule d
  days_repeat d = ap (λ z. is_day_chosen schedule (d +ℤ z)) whole.of_days ∙ day-cycle schedule whole.cycles keeps_due d

module _ (rule : SkipRule) (kind : Kind) (start : ℤ) (some : 1 ≤ rule.rule.interval) (taken : IsTrue (takes_skip rule.rule.freq)) where
  -- the days repeat after each multiple of the cycle
  pub chosen_days_repeat : (days : ℕ) → rule_cycle rule.rule ∣ days → (d : ℤ)
      → is_day_chosen (schedule_of rule (day_part kind start)) (d +ℤ pos days) ≡ is_day_chosen (schedule_of rule (day_part kind start)) d
  chosen_days_repeat days h d =
      let n = interval_cycle rule.rule.freq rule.rule.interval in
      let of_n : n ∣ days = dvd_trans n (of_interval) h in
      days_repeat (schedule_of rule (day_part kind start)) days some (whole_cycles rule.rule.freq rule.rule.interval days taken of_n) d
    where
      of_interval : interval_cycle rule.rule.freq rule.rule.interval ∣ rule_cycle rule.rule
      of_interval = (lcm_is (interval_cycle rule.rule.freq rule.rule.interval) (parts_cycle rule.rule)
          (interval_cycle_some rule.rule.freq rule.rule.interval some) (parts_some rule.rule)).0

  pub cycles_later : (k : ℕ) (t : ℤ) → is_skip_chosen rule kind start (t +ℤ days_in kind (pos (rule_cycle rule.rule * k))) ≡ is_skip_chosen rule kind start t
  cycles_later k t =
      let days = rule_cycle rule.rule * k in
      let a = day_part-shift kind t (pos days) in
      let b = second_part-shift kind t (pos days) in
      let c = chosen_days_repeat days (dvd-mul_right (rule_cycle rule.rule) k) (day_part kind t) in
      rw (a, b, c) refl

pub skip_chosen_repeats : SkipChosenRepeats
skip_chosen_repeats rule kind start (pos k) t valid taken = cycles_later rule kind start valid.interval_low taken k t
skip_chosen_repeats rule kind start (negsuc k) t valid taken =
    let earlier : ℤ = t +ℤ days_in kind (pos (rule_cycle rule.rule) *ℤ negsuc k) in
    sym (cycles_later rule kind start valid.interval_low taken (suc k) earlier)
    ∙ ap (is_skip_chosen rule kind start) (there_and_back kind (rule_cycle rule.rule) k t)
