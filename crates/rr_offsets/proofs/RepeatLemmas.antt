-- From a moment on the observances of a steady zone begin again after each 400 years.
use Rattle.std.proofs.Common.{◌≡◌, ℕ, ◌≤◌, ◌<◌, ◌==◌, true, false, cond, ◌&&◌, ℤ, pos, ◌+ℤ◌, ◌-ℤ◌, ◌≤ℤ◌, ◌<ℤ◌, List, [], ◌∷◌, get_or, All, refl, sym, subst, ◌∙◌, eqb-true, arith}
use Prim.Native.Nat.{◌∣◌}
use Rattle.std.specs.Prelude.{if◌then◌else◌, int_le, int_lt}
use Rattle.std.specs.List.{list_all, list_any}
use Rattle.std.specs.Ordering.{int_eq}
use Rattle.std.proofs.lemmas.Int.{ints}
use Rattle.std.proofs.lemmas.Bool.{false≢true, and_parts, and_right, cond_both}
use Rattle.std.proofs.lemmas.Bool.Decides.{nat_tests}
use Rattle.std.proofs.lemmas.List.Elements.{All-head, All-tail}
use Rattle.std.proofs.lemmas.List.Folds.{list_any_none}
use Rattle.std.proofs.Math.Nat.{dvd-mul_right}
use Rattle.rr_model.specs.Calendar.{first_day_of_year}
use Rattle.rr_model.specs.Moment.{day_part, moment_at, second_part}
use Rattle.rr_model.specs.Rising.{with_value}
use Rattle.rr_model.specs.Rule.Chosen.{is_chosen}
use Rattle.rr_model.specs.Rule.Cycle.{asks_calendar, interval_cycle, rule_cycle}
use Rattle.rr_model.specs.Rule.Validity.{IsValidRule, is_absent}
use Rattle.rr_model.specs.Series.Tree.{dates_with_start, members_of, members_of_all, up_to_end}
use Rattle.rr_model.specs.Sets.Tree.{chosen_of, dates_of, has_second, many, union, stands_in, some_stands_at}
use Rattle.rr_model.specs.Whole.{floor_mod}
use Rattle.rr_model.specs.Whole.Divisors.{gcd, gcd_within, lcm}
use Rattle.rr_model.specs.declared.kind.Kind.TheVariants.{Moments}
use Rattle.rr_model.specs.declared.rule.End.{End}
use Rattle.rr_model.specs.declared.rule.End.TheVariants.{Never, Until, Count, Both}
use Rattle.rr_model.specs.declared.rule.Freq.{Freq}
use Rattle.rr_model.specs.declared.rule.Freq.TheVariants.{Secondly, Minutely, Hourly, Daily, Weekly, Monthly, Yearly}
use Rattle.rr_model.specs.declared.rule.Rule.{Rule}
use Rattle.rr_model.specs.declared.rule.Series.{Series}
use Rattle.rr_model.proofs.RisingLemmas.{All-with_value}
use Rattle.rr_model.proofs.WholeLemmas.{floor_mod_below, floor_whole}
use Rattle.rr_num.proofs.DivisorLemmas.{lcm_is, lcm_some}
use Rattle.rr_check.proofs.RepetitionLemmas.{chosen_repeats_by}
use Rattle.rr_zone.specs.Observances.{IsSoundObservance, is_yearly}
use Rattle.rr_zone.specs.Onsets.{first_moment, is_onset}
use Rattle.rr_zone.specs.declared.observance.Observance.{Observance}
use Rattle.rr_offsets.specs.Offsets.{begins, new_offset}
use Rattle.rr_offsets.specs.Past.{AreOver, EndsBefore, IsOver, LiesBefore, zone_cycle}
use Rattle.rr_offsets.specs.Steady.{is_steady, is_steady_end, is_steady_observance, is_steady_rule}

-- ---- the cycle of a yearly rule divides 400 years

year_cycle : interval_cycle Yearly 1 ≡ 146_097
unfolding gcd gcd_within
year_cycle = refl

yearly_is : (freq : Freq) → is_yearly freq ≡ true → freq ≡ Yearly
yearly_is Secondly e = absurd (false≢true e)
yearly_is Minutely e = absurd (false≢true e)
yearly_is Hourly e = absurd (false≢true e)
yearly_is Daily e = absurd (false≢true e)
yearly_is Weekly e = absurd (false≢true e)
yearly_is Monthly e = absurd (false≢true e)
yearly_is Yearly e = refl

seven : 7 ∣ 146_097
seven = dvd-mul_right 7 20_871

one : (n : ℕ) → 1 ∣ n
one n = subst (λ m. 1 ∣ m) (omega arith) (dvd-mul_right 1 n)

itself : (n : ℕ) → n ∣ n
itself n = subst (λ m. n ∣ m) (omega arith) (dvd-mul_right n 1)

-- a rule has its turn each year
cycle_divides : (rule : Rule) → is_yearly rule.freq ≡ true → rule.interval ≡ 1 → rule_cycle rule ∣ 146_097
cycle_divides rule yearly each =
    let w : ℕ = cond (is_absent rule.by_day) 1 7 in
    let y : ℕ = cond (asks_calendar rule) 146_097 1 in
    let n : interval_cycle rule.freq rule.interval ≡ 146_097 = rw (yearly_is rule.freq yearly, each) year_cycle in
    let hw : 1 ≤ w = cond_both (is_absent rule.by_day) 1 7 (λ z. 1 ≤ z) (λ _. omega arith) (λ _. omega arith) in
    let hy : 1 ≤ y = cond_both (asks_calendar rule) 146_097 1 (λ z. 1 ≤ z) (λ _. omega arith) (λ _. omega arith) in
    let dw : w ∣ 146_097 = cond_both (is_absent rule.by_day) 1 7 (λ z. z ∣ 146_097) (λ _. one 146_097) (λ _. seven) in
    let dy : y ∣ 146_097 = cond_both (asks_calendar rule) 146_097 1 (λ z. z ∣ 146_097) (λ _. itself 146_097) (λ _. one 146_097) in
    let parts : lcm w y ∣ 146_097 = (lcm_is w y hw hy).2 146_097 dw dy in
    let some : 1 ≤ lcm w y = lcm_some w y hw hy in
    let first : interval_cycle rule.freq rule.interval ∣ 146_097 = subst (λ z. z ∣ 146_097) (sym n) (itself 146_097) in
    (lcm_is (interval_cycle rule.freq rule.interval) (lcm w y) (omega (arith, n)) some).2 146_097 first parts

-- ---- one moment

whole : (t : ℤ) → moment_at Moments (day_part Moments t) (second_part Moments t) ≡ t
whole t = sym (floor_whole t 86_400 (omega arith))

a_second : (t : ℤ) → has_second Moments (second_part Moments t) ≡ true
a_second t = (let b : floor_mod t 86_400 < 86_400 = floor_mod_below t 86_400 (omega arith) in grind (arith, nat_tests))

chosen_here : (rule : Rule) (start t : ℤ) → stands_in (chosen_of rule Moments start) Moments t ≡ (is_chosen rule Moments start t && int_le start t)
chosen_here rule start t = rw (whole t, a_second t) refl

-- ---- one rule

module _ (start from p t : ℤ) (past : LiesBefore from p start) (late : (p +ℤ from) ≤ℤ t) where
  -- 400 years later
  abbrev later : ℤ
  later = t +ℤ pos zone_cycle

  begun : int_le start t ≡ true
  begun = grind (arith, ints, past, late)

  begun_later : int_le start later ≡ true
  begun_later = grind (arith, ints, past, late)

  module _ (rule : Rule) (valid : IsValidRule Moments rule) (yearly : is_yearly rule.freq ≡ true) (each : rule.interval ≡ 1) where
    chosen_later : stands_in (chosen_of rule Moments start) Moments later ≡ stands_in (chosen_of rule Moments start) Moments t
    chosen_later =
        let c = chosen_repeats_by rule Moments start t valid 146_097 (cycle_divides rule yearly each) in
        chosen_here rule start later ∙ rw (begun, begun_later, c) refl ∙ sym (chosen_here rule start t)

    end_later : (end : End) → is_steady_end end ≡ true → EndsBefore from p end
        → stands_in (up_to_end Moments end (chosen_of rule Moments start)) Moments later
        ≡ stands_in (up_to_end Moments end (chosen_of rule Moments start)) Moments t
    end_later Never steady ends = chosen_later
    end_later (Until kind at) steady ends =
        let a : int_le later at ≡ false = grind (arith, ints, ends, late) in
        let b : int_le t at ≡ false = grind (arith, ints, ends, late) in
        rw (whole later, whole t, a, b) (and_right _ false refl ∙ sym (and_right _ false refl))
    end_later (Count count) steady ends = absurd (false≢true steady)
    end_later (Both kind at count) steady ends = absurd (false≢true steady)

  rule_later : (rule : Rule) → IsValidRule Moments rule → is_steady_rule rule ≡ true → EndsBefore from p rule.end
      → stands_in (members_of Moments start rule) Moments later ≡ stands_in (members_of Moments start rule) Moments t
  rule_later rule valid steady ends =
      let two = and_parts (is_yearly rule.freq && (rule.interval == 1)) (is_steady_end rule.end) steady in
      let one = and_parts (is_yearly rule.freq) (rule.interval == 1) two.0 in
      end_later rule valid one.0 (eqb-true rule.interval 1 one.1) rule.end two.1 ends

  rules_later : (rules : List Rule) → All (IsValidRule Moments) rules → list_all is_steady_rule rules ≡ true
      → All (λ rule. EndsBefore from p rule.end) rules
      → some_stands_at (members_of_all Moments start rules) (day_part Moments later) (second_part Moments later)
      ≡ some_stands_at (members_of_all Moments start rules) (day_part Moments t) (second_part Moments t)
  rules_later [] valid steady ends = refl
  rules_later (rule ∷ rules) valid steady ends =
      let s = and_parts (is_steady_rule rule) (list_all is_steady_rule rules) steady in
      let first = rule_later rule (All-head (IsValidRule Moments) rule rules valid) s.0 (All-head (λ r. EndsBefore from p r.end) rule rules ends) in
      let rest = rules_later rules (All-tail (IsValidRule Moments) rule rules valid) s.1 (All-tail (λ r. EndsBefore from p r.end) rule rules ends) in
      rw (first, rest) refl

-- ---- dates

-- no date stands from the moment on
none_dates : (from p t : ℤ) (dates : List ℤ) → All (LiesBefore from p) dates → (p +ℤ from) ≤ℤ t
    → stands_in (dates_of Moments dates) Moments t ≡ false
none_dates from p t dates before late =
    let none : list_any (λ x. int_eq x t) dates ≡ false = list_any_none (λ x. int_eq x t) dates (λ k x h. (
    let m : (get_or dates k x -ℤ from) <ℤ p = before k x h in
    let e : int_lt (get_or dates k x) t ≡ true = grind (arith, ints, m, late) in
    rw e refl)) in
    rw (whole t, none) (and_right _ false refl)

with_start : (series : Series) (from p : ℤ) → LiesBefore from p series.start → All (LiesBefore from p) series.plus
    → All (LiesBefore from p) (dates_with_start series)
with_start series from p start plus =
    elim series.start_counts as (λ b. All (LiesBefore from p) (if b then with_value int_lt series.plus series.start else series.plus)) [
      | true ↦ All-with_value (LiesBefore from p) int_lt series.plus series.start plus start
      | false ↦ plus
    ]

-- ---- one observance

module _ (p : ℤ) (o : Observance) (sound : IsSoundObservance o) (steady : is_steady_observance o ≡ true) (over : IsOver p o) (u : ℤ) (late : p ≤ℤ u) where
  onset_later : is_onset o.series ((u +ℤ o.from) +ℤ pos zone_cycle) ≡ is_onset o.series (u +ℤ o.from)
  onset_later =
      let t = u +ℤ o.from in
      let from_p : (p +ℤ o.from) ≤ℤ t = omega (arith, ints, late) in
      let from_p_later : (p +ℤ o.from) ≤ℤ (t +ℤ pos zone_cycle) = omega (arith, ints, late) in
      let dates = with_start o.series o.from p over.start over.plus in
      let valid : All (IsValidRule Moments) o.series.rules = subst (λ k. All (IsValidRule k) o.series.rules) sound.kind sound.valid.rules in
      let s = and_parts _ (list_all is_steady_rule o.series.rules) steady in
      let rules = rules_later o.series.start o.from p t over.start from_p o.series.rules valid s.1 over.rules in
      let a = none_dates o.from p t (dates_with_start o.series) dates from_p in
      let b = none_dates o.from p (t +ℤ pos zone_cycle) (dates_with_start o.series) dates from_p_later in
      subst (λ k. stands_in (union (dates_of k (dates_with_start o.series)) (many (members_of_all k o.series.start o.series.rules))) Moments (t +ℤ pos zone_cycle)
      ≡ stands_in (union (dates_of k (dates_with_start o.series)) (many (members_of_all k o.series.start o.series.rules))) Moments t)
      (sym sound.kind) (rw (a, b, rules) refl)

  begins_later : begins o (u +ℤ pos zone_cycle) ≡ begins o u
  begins_later =
      let e : (u +ℤ pos zone_cycle) +ℤ o.from ≡ (u +ℤ o.from) +ℤ pos zone_cycle = omega (arith, ints) in
      let y = subst (λ k. first_day_of_year (pos 1) ≤ℤ day_part k o.series.start) sound.kind sound.valid.start.0 in
      let w = floor_whole o.series.start 86_400 (omega arith) in
      let s : first_moment ≤ℤ o.series.start = omega (arith, ints, y, w) in
      let a : int_le first_moment (u +ℤ o.from) ≡ true = grind (arith, ints, s, over.start, late) in
      let b : int_le first_moment ((u +ℤ o.from) +ℤ pos zone_cycle) ≡ true = grind (arith, ints, s, over.start, late) in
      rw (e, a, b) onset_later

-- ---- all observances

pub new_later : (p : ℤ) (zone : List Observance) → All IsSoundObservance zone → is_steady zone ≡ true → AreOver p zone → (u : ℤ) → p ≤ℤ u
    → new_offset zone (u +ℤ pos zone_cycle) ≡ new_offset zone u
new_later p [] sound steady over u late = refl
new_later p (o ∷ os) sound steady over u late =
    let s = and_parts (is_steady_observance o) (is_steady os) steady in
    let first = begins_later p o (All-head IsSoundObservance o os sound) s.0 (All-head (IsOver p) o os over) u late in
    let rest = new_later p os (All-tail IsSoundObservance o os sound) s.1 (All-tail (IsOver p) o os over) u late in
    rw (first, rest) refl
