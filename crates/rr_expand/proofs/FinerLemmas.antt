-- The candidate seconds of a day, found unit by unit.
use Rattle.std.proofs.Common.{◌≡◌, ℕ, ◌+◌, ◌/◌, ◌%◌, ◌<◌, ◌≤◌, Bool, true, false, List, [], ◌++◌, ℤ, pos, ◌+ℤ◌, ◌-ℤ◌, ◌*ℤ◌, inl, inr, refl, sym, ap, ◌∙◌, arith}
use Rattle.std.specs.Prelude.{IsTrue, nat_lt}
use Rattle.std.proofs.lemmas.Int.{ints}
use Rattle.std.proofs.lemmas.Nat.{le-div}
use Rattle.std.proofs.Math.Nat.{div-mul-le_self}
use Rattle.std.proofs.lemmas.Bool.{cases_lt, false≢true}
use Rattle.rr_model.specs.Whole.{floor_div, floor_mod, divides}
use Rattle.rr_model.specs.Moment.{moment_at}
use Rattle.rr_model.specs.Moment.Units.{unit_number}
use Rattle.rr_model.specs.Rising.Sets.{IsSetOf}
use Rattle.rr_model.specs.Rule.Filled.{hour_of, minute_of, second_of, filled_rule}
use Rattle.rr_model.specs.Rule.Candidate.{interval_holds, date_parts_hold, is_candidate}
use Rattle.rr_model.specs.declared.kind.Kind.TheVariants.{Days, Moments}
use Rattle.rr_model.specs.declared.rule.Freq.{Freq}
use Rattle.rr_model.specs.declared.rule.Freq.TheVariants.{Secondly, Minutely, Hourly, Daily, Weekly, Monthly, Yearly}
use Rattle.rr_model.specs.declared.rule.Rule.{Rule}
use Rattle.rr_model.proofs.WholeLemmas.{floor_only}
use Rattle.rr_model.proofs.MomentLemmas.{day_part-moment_at}
use Rattle.rr_model.proofs.RisingSetLemmas.{set_same, set_empty}
use Rattle.rr_model.specs.Rule.DaysAndTimes.{time_holds}
use Rattle.rr_model.specs.Moment.Units.{is_whole_days, unit_seconds}
use Rattle.rr_expand.specs.Expansion.{IsFittingSecond, IsCandidateSecond}
use Rattle.rr_expand.specs.Spread.{of_unit}
use Rattle.rr_expand.specs.UnitTimes.{AreUnitTimes}
use Rattle.rr_model.proofs.DaysAndTimesLemmas.{time_parts_hold-at, and_true, and_parts, unit_some}
use Rattle.rr_expand.proofs.FitLemmas.{fits_at, first_fits, none_before, next_fits, none_between}
use Rattle.rr_expand.proofs.StepSets.{Before, At, before_first, one_more, all_before}
use Rattle.rr_expand.proofs.UnitSets.{unit_set}

-- ---- the unit of a second of a day

pub unit_at : (freq : Freq) (w : ℕ) (d : ℤ) (s : ℕ) → is_whole_days freq ≡ false
    → unit_number freq w Moments (moment_at Moments d s) ≡ unit_number freq w Moments (moment_at Moments d 0) +ℤ pos (s / unit_seconds freq)
unit_at Secondly w d s fine = omega (arith, ints)
unit_at Minutely w d s fine =
    let a = (floor_only ((d *ℤ pos 86_400) +ℤ pos s) ((d *ℤ pos 1_440) +ℤ pos (s / 60)) 60 (s % 60) (omega arith) (omega (arith, ints))).0 in
    let b = (floor_only ((d *ℤ pos 86_400) +ℤ pos 0) (d *ℤ pos 1_440) 60 0 (omega arith) (omega (arith, ints))).0 in
    rw (a, b) refl
unit_at Hourly w d s fine =
    let a = (floor_only ((d *ℤ pos 86_400) +ℤ pos s) ((d *ℤ pos 24) +ℤ pos (s / 3_600)) 3_600 (s % 3_600) (omega arith) (omega (arith, ints))).0 in
    let b = (floor_only ((d *ℤ pos 86_400) +ℤ pos 0) (d *ℤ pos 24) 3_600 0 (omega arith) (omega (arith, ints))).0 in
    rw (a, b) refl
unit_at Daily w d s fine = absurd (cc)
unit_at Weekly w d s fine = absurd (cc)
unit_at Monthly w d s fine = absurd (cc)
unit_at Yearly w d s fine = absurd (cc)

-- a later unit has later seconds
later : (n : ℕ) → 0 < n → (s t : ℕ) → s / n < t / n → s < t
later n some s t l =
    elim (cases_lt s t) [
      | inl lt ↦ lt
      | inr ge ↦ (let h = le-div (t / n) s n some (omega (arith, div-mul-le_self t n, ge)) in absurd (omega (arith, h, l)))
    ]

within_day : (freq : Freq) (s : ℕ) → s < 86_400 → s / unit_seconds freq < 86_400 / unit_seconds freq
within_day Secondly s h = omega (arith, h)
within_day Minutely s h = omega (arith, h)
within_day Hourly s h = omega (arith, h)
within_day Daily s h = omega (arith, h)
within_day Weekly s h = omega (arith, h)
within_day Monthly s h = omega (arith, h)
within_day Yearly s h = omega (arith, h)

module _ (rule : Rule) (start day : ℤ) where
  -- the unit of a second of the day
  abbrev pub unit : ℕ → ℕ
  unit s = s / unit_seconds rule.freq

  -- the day's unit k fits the interval
  abbrev pub fits : ℕ → Bool
  fits k = fits_at rule.interval (unit_number rule.freq rule.week_start Moments (moment_at Moments day 0))
      (unit_number rule.freq rule.week_start Moments start) k

  -- the time parts hold at a second of the day
  abbrev pub Stands : ℕ → Type 0
  Stands s = (s < 86_400) × IsTrue (time_holds rule Moments start s)

  abbrev pub day_unit : ℤ
  day_unit = unit_number rule.freq rule.week_start Moments (moment_at Moments day 0)

  abbrev pub start_unit : ℤ
  start_unit = unit_number rule.freq rule.week_start Moments start

  -- the units before this one are done, and this one fits
  pub record IsFound (k : ℕ) (out : List ℕ) : Type 0 where
    pub fit : fits k ≡ true
    pub set : IsSetOf nat_lt out (Before unit fits Stands k)

  pub found_first : (k : ℕ) (out : List ℕ) → 1 ≤ rule.interval → out ≡ []
      → k ≡ floor_mod (unit_number rule.freq rule.week_start Moments start -ℤ unit_number rule.freq rule.week_start Moments
      (moment_at Moments day 0)) rule.interval
      → IsFound k out
  found_first k out some e first = record {
    fit = rw first (first_fits rule.interval some day_unit start_unit);
    set = before_first unit fits Stands out k e (λ j l. none_before rule.interval some day_unit start_unit j (rw first at l));
  }

  pub found_more : (k : ℕ) (out new ms ss : List ℕ) → 1 ≤ rule.interval → is_whole_days rule.freq ≡ false → k < 86_400 / unit_seconds rule.freq
      → AreUnitTimes rule start ms ss
      → new ≡ out ++ of_unit rule.freq rule k ms ss → IsFound k out → IsFound (k + rule.interval) new
  found_more k out new ms ss some fine low times e found = record {
    fit = next_fits rule.interval some day_unit start_unit k found.fit;
    set = one_more unit fits Stands (later (unit_seconds rule.freq) (unit_some rule.freq)) out
        (of_unit rule.freq rule k ms ss) new k rule.interval some found.fit
        (λ j a b. none_between rule.interval some day_unit start_unit k j found.fit a b) found.set
        (set_same nat_lt _ (At unit Stands k) (of_unit rule.freq rule k ms ss)
        (unit_set rule.freq rule (hour_of Moments start) (minute_of Moments start) (second_of Moments start) ms ss fine times.0 times.1 k low)
        (λ t. (
          (λ h. (h.0, (h.1.0, rw (time_parts_hold-at (filled_rule rule Moments start) (pos 0) t h.1.0) h.1.1))),
          (λ h. (h.0, (h.1.0, rw (time_parts_hold-at (filled_rule rule Moments start) (pos 0) t h.1.0) at h.1.1))),
        )))
        e;
  }

  interval_at : (s : ℕ) → is_whole_days rule.freq ≡ false → interval_holds rule Moments start (moment_at Moments day s) ≡ fits (unit s)
  interval_at s fine = ap (λ u. divides rule.interval (u -ℤ unit_number rule.freq rule.week_start Moments start)) (unit_at rule.freq rule.week_start day s fine)

  pub found_all : (k : ℕ) (out : List ℕ) → is_whole_days rule.freq ≡ false → 86_400 / unit_seconds rule.freq ≤ k → IsFound k out
      → IsSetOf nat_lt out (IsFittingSecond rule start day)
  found_all k out fine done found =
      set_same nat_lt (λ s. IsTrue (fits (unit s)) × Stands s) (IsFittingSecond rule start day) out
      (all_before unit fits Stands out k (λ s h. omega (arith, within_day rule.freq s h.0, done)) found.set)
      (λ s. (
        (λ h. (interval_at s fine ∙ h.0, h.1.0, h.1.1)),
        (λ h. (sym (interval_at s fine) ∙ h.0, (h.1, h.2))),
      ))

-- ---- the date parts

-- the date parts of the rule, filled from the start, hold of the day
abbrev pub dates_hold : Rule → ℤ → ℤ → Bool
dates_hold rule start day = date_parts_hold (filled_rule rule Moments start) day

-- only the start's day enters
pub dates_are : (rule : Rule) (start day s d : ℤ) (b : Bool) → s ≡ floor_div start 86_400 → d ≡ day → b ≡ date_parts_hold (filled_rule rule Days s) d
    → b ≡ dates_hold rule start day
dates_are rule start day s d b same_start same_day e = rw (same_start, same_day) at e

pub candidate_seconds : (rule : Rule) (start day : ℤ) (out : List ℕ) → dates_hold rule start day ≡ true
    → IsSetOf nat_lt out (IsFittingSecond rule start day) → IsSetOf nat_lt out (IsCandidateSecond rule start day)
unfolding is_candidate
candidate_seconds rule start day out dates set =
    set_same nat_lt (IsFittingSecond rule start day) (IsCandidateSecond rule start day) out set
    (λ s. (
      (λ h. (
        h.1,
        and_true _ _ _ h.0 (rw (day_part-moment_at day s h.1) dates) (time_parts_hold-at (filled_rule rule Moments start) day s h.1
            ∙ sym (time_parts_hold-at (filled_rule rule Moments start) (pos 0) s h.1) ∙ h.2),
      )),
      (λ h. (let p = and_parts _ _ _ h.1 in (
        p.0,
        h.0,
        time_parts_hold-at (filled_rule rule Moments start) (pos 0) s h.0
            ∙ sym (time_parts_hold-at (filled_rule rule Moments start) day s h.0) ∙ p.2,
      ))),
    ))

pub no_candidate_seconds : (rule : Rule) (start day : ℤ) → dates_hold rule start day ≡ false → IsSetOf nat_lt [] (IsCandidateSecond rule start day)
unfolding is_candidate
no_candidate_seconds rule start day dates =
    set_empty nat_lt (IsCandidateSecond rule start day)
    (λ s h. (let p = and_parts _ _ _ h.1 in false≢true (sym dates ∙ sym (ap (dates_hold rule start) (day_part-moment_at day s h.0)) ∙ p.1)))
