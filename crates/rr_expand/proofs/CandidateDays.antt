-- The candidate days of a unit are the days of its stretch at which the date parts hold, if its interval fits.
use Rattle.std.proofs.Common.{◌≡◌, ℕ, Bool, true, false, ◌&&◌, List, ℤ, pos, ◌+ℤ◌, ◌-ℤ◌, ap, ◌∙◌}
use Rattle.std.specs.Prelude.{IsTrue, int_lt}
use Rattle.std.specs.Cmp.Derive.{both_true}
use Rattle.rr_model.specs.Whole.{divides}
use Rattle.rr_model.specs.Moment.Units.{unit_number, unit_start}
use Rattle.rr_model.specs.Rising.Sets.{IsSetOf}
use Rattle.rr_model.specs.declared.kind.Kind.TheVariants.{Days}
use Rattle.rr_model.specs.declared.rule.Rule.{Rule}
use Rattle.rr_model.proofs.RisingSetLemmas.{set_same}
use Rattle.rr_model.specs.Rule.DaysAndTimes.{IsCandidateDay}
use Rattle.rr_model.specs.Moment.Units.{is_whole_days}
use Rattle.rr_expand.specs.Expansion.{IsAllowedDay}
use Rattle.rr_cal.proofs.DayUnitLemmas.{in_unit}

right_true : (a b : Bool) → IsTrue (a && b) → IsTrue b
right_true true b h = h
right_true false b h = absurd (cc)

module _ (rule : Rule) (start unit : ℤ) where
  -- the unit is a whole number of intervals from the start's
  abbrev pub unit_fits : Bool
  unit_fits = divides rule.interval (unit -ℤ unit_number rule.freq rule.week_start Days start)

  at_unit : (d : ℤ) → unit_number rule.freq rule.week_start Days d ≡ unit
      → divides rule.interval (unit_number rule.freq rule.week_start Days d -ℤ unit_number rule.freq rule.week_start Days start) ≡ unit_fits
  at_unit d e = ap (λ u. divides rule.interval (u -ℤ unit_number rule.freq rule.week_start Days start)) e

  pub candidate_days : (first : ℤ) (count : ℕ) (days : List ℤ) → is_whole_days rule.freq ≡ true → first ≡ unit_start rule.freq rule.week_start Days unit
      → unit_start rule.freq rule.week_start Days (unit +ℤ pos 1) ≡ unit_start rule.freq rule.week_start Days unit +ℤ pos count
      → unit_fits ≡ true → IsSetOf int_lt days (IsAllowedDay rule start first count) → IsSetOf int_lt days (IsCandidateDay rule start unit)
  candidate_days first count days coarse begins ends fit set =
      set_same int_lt (IsAllowedDay rule start first count) (IsCandidateDay rule start unit) days set
      (λ d. (let within = in_unit rule.freq rule.week_start unit first d count coarse begins ends in (
        (λ h. (let e = within.1 (h.0, h.1) in (e, both_true (at_unit d e ∙ fit) h.2))),
        (λ h. (let l = within.0 h.0 in (l.0, l.1, right_true _ _ h.1))),
      )))
