-- The values of the parts that are read lie in their ranges, and rise.
use Rattle.std.proofs.Common.{◌≡◌, ℕ, ◌<◌, ◌≤◌, true, false, Some, List, [], ◌∷◌, Ok, subst}
use Rattle.std.specs.Prelude.{All, int_lt, ok_or}
use Rattle.std.specs.Option.{IfSome}
use Rattle.std.proofs.lemmas.List.Elements.{All-nil}
use Rattle.rr_model.specs.Text.Moments.{basic}
use Rattle.rr_model.specs.Text.Rules.{split_once}
use Rattle.rr_rule_parts.specs.Rules.{name_of, is_present, with_part_value, with_part, with_parts, no_parts, without_last_semicolon, parts_of}
use Rattle.rr_model.specs.Text.Rules.{line_value}
use Rattle.rr_rule_parts.specs.Rules.{rule_parts}
use Rattle.rr_model.specs.Text.RuleValues.{freq_named, weekday_named, number_up_to, pieces}
use Rattle.rr_rule_parts.specs.Values.{unsigned_bounds, signed_bounds, second_bounds, numbers_of, day_items_of}
use Rattle.rr_model.specs.Rule.Validity.{IsCount, LieFrom, CountUpTo, IsDayItem}
use Rattle.rr_model.specs.Rising.{Rises, day_item_lt}
use Rattle.rr_model.specs.declared.refusal.Refusal.TheVariants.{BadMoment, BadRule, PartTwice}
use Rattle.rr_rule_parts.specs.declared.rule_parts.PartName.{PartName}
use Rattle.rr_rule_parts.specs.declared.rule_parts.PartName.TheVariants as part
use Rattle.rr_rule_parts.specs.declared.rule_parts.RuleParts.{RuleParts}
use Rattle.rr_text.proofs.StepLemmas.{and_then_ok, ok_or_ok, step_keeps, not_refused}
use Rattle.rr_text.proofs.InYearsLemmas.{basic-stamp}
use Rattle.rr_rule_parts.proofs.ValidRisingLemmas.{numbers_of-rise, day_items_of-rise}
use Rattle.rr_text.proofs.WordLemmas.{number_up_to-lies, weekday_named-below}
use Rattle.rr_text.specs.Stamps.{IsStamp}
use Rattle.rr_rule_parts.proofs.BoundsLemmas.{numbers_of-counts, numbers_of-lie, day_items_of-means}

-- the values of the parts that are present lie in their ranges, and rise without repeats
pub record ArePartsValid (parts : RuleParts) : Type 0 where
  pub until : IfSome parts.until IsStamp
  pub count : IfSome parts.count IsCount
  pub interval : IfSome parts.interval (λ n. (1 ≤ n) × (n ≤ 4_294_967_295))
  pub week_start : IfSome parts.week_start (λ d. d < 7)
  pub seconds : LieFrom 0 59 parts.by_second
  pub minutes : LieFrom 0 59 parts.by_minute
  pub hours : LieFrom 0 23 parts.by_hour
  pub days : All IsDayItem parts.by_day
  pub month_days : CountUpTo 31 parts.by_month_day
  pub year_days : CountUpTo 366 parts.by_year_day
  pub week_numbers : CountUpTo 53 parts.by_week_no
  pub months : LieFrom 1 12 parts.by_month
  pub set_positions : CountUpTo 366 parts.by_set_pos
  pub seconds_rise : Rises int_lt parts.by_second
  pub minutes_rise : Rises int_lt parts.by_minute
  pub hours_rise : Rises int_lt parts.by_hour
  pub days_rise : Rises day_item_lt parts.by_day
  pub month_days_rise : Rises int_lt parts.by_month_day
  pub year_days_rise : Rises int_lt parts.by_year_day
  pub week_numbers_rise : Rises int_lt parts.by_week_no
  pub months_rise : Rises int_lt parts.by_month
  pub set_positions_rise : Rises int_lt parts.by_set_pos

pub no_parts-valid : ArePartsValid no_parts
no_parts-valid = record {
  until = tt;
  count = tt;
  interval = tt;
  week_start = tt;
  seconds = All-nil _;
  minutes = All-nil _;
  hours = All-nil _;
  days = All-nil _;
  month_days = All-nil _;
  year_days = All-nil _;
  week_numbers = All-nil _;
  months = All-nil _;
  set_positions = All-nil _;
  seconds_rise = tt;
  minutes_rise = tt;
  hours_rise = tt;
  days_rise = tt;
  month_days_rise = tt;
  year_days_rise = tt;
  week_numbers_rise = tt;
  months_rise = tt;
  set_positions_rise = tt;
}

-- each value is one of its part
pub with_part_value-valid : (line : ℕ) (parts : RuleParts) (name : PartName) (text : List ℕ) (more : RuleParts) → ArePartsValid parts
    → with_part_value line parts name text ≡ Ok more → ArePartsValid more
with_part_value-valid line parts part.Freq text more v =
    step_keeps ArePartsValid (ok_or (freq_named text) (BadRule line)) (λ x. record parts { freq = Some x }) more (λ x e. assumption)
with_part_value-valid line parts part.Until text more v =
    step_keeps ArePartsValid (ok_or (basic text) (BadMoment line)) (λ x. record parts { until = Some x }) more
    (λ x e. assumption (basic-stamp text x (ok_or_ok (basic text) _ x e)))
with_part_value-valid line parts part.Count text more v =
    step_keeps ArePartsValid (number_up_to line 18_446_744_073_709_551_615 text) (λ x. record parts { count = Some x }) more
    (λ x e. assumption (number_up_to-lies line _ text x e))
with_part_value-valid line parts part.Interval text more v =
    step_keeps ArePartsValid (number_up_to line 4_294_967_295 text) (λ x. record parts { interval = Some x }) more
    (λ x e. assumption (number_up_to-lies line _ text x e))
with_part_value-valid line parts part.WeekStart text more v =
    step_keeps ArePartsValid (ok_or (weekday_named text) (BadRule line)) (λ x. record parts { week_start = Some x }) more
    (λ x e. assumption (weekday_named-below text x (ok_or_ok (weekday_named text) _ x e)))
with_part_value-valid line parts part.BySecond text more v =
    step_keeps ArePartsValid (numbers_of line second_bounds text) (λ x. record parts { by_second = x }) more
    (λ x e. assumption (numbers_of-lie line 0 59 true text x e, numbers_of-rise line _ text x e))
with_part_value-valid line parts part.ByMinute text more v =
    step_keeps ArePartsValid (numbers_of line (unsigned_bounds 0 59) text) (λ x. record parts { by_minute = x }) more
    (λ x e. assumption (numbers_of-lie line 0 59 false text x e, numbers_of-rise line _ text x e))
with_part_value-valid line parts part.ByHour text more v =
    step_keeps ArePartsValid (numbers_of line (unsigned_bounds 0 23) text) (λ x. record parts { by_hour = x }) more
    (λ x e. assumption (numbers_of-lie line 0 23 false text x e, numbers_of-rise line _ text x e))
with_part_value-valid line parts part.ByDay text more v =
    step_keeps ArePartsValid (day_items_of line text) (λ x. record parts { by_day = x }) more
    (λ x e. assumption (day_items_of-means line text x e, day_items_of-rise line text x e))
with_part_value-valid line parts part.ByMonthDay text more v =
    step_keeps ArePartsValid (numbers_of line (signed_bounds 31) text) (λ x. record parts { by_month_day = x }) more
    (λ x e. assumption (numbers_of-counts line 31 text x e, numbers_of-rise line _ text x e))
with_part_value-valid line parts part.ByYearDay text more v =
    step_keeps ArePartsValid (numbers_of line (signed_bounds 366) text) (λ x. record parts { by_year_day = x }) more
    (λ x e. assumption (numbers_of-counts line 366 text x e, numbers_of-rise line _ text x e))
with_part_value-valid line parts part.ByWeekNo text more v =
    step_keeps ArePartsValid (numbers_of line (signed_bounds 53) text) (λ x. record parts { by_week_no = x }) more
    (λ x e. assumption (numbers_of-counts line 53 text x e, numbers_of-rise line _ text x e))
with_part_value-valid line parts part.ByMonth text more v =
    step_keeps ArePartsValid (numbers_of line (unsigned_bounds 1 12) text) (λ x. record parts { by_month = x }) more
    (λ x e. assumption (numbers_of-lie line 1 12 false text x e, numbers_of-rise line _ text x e))
with_part_value-valid line parts part.BySetPos text more v =
    step_keeps ArePartsValid (numbers_of line (signed_bounds 366) text) (λ x. record parts { by_set_pos = x }) more
    (λ x e. assumption (numbers_of-counts line 366 text x e, numbers_of-rise line _ text x e))

with_part-valid : (line : ℕ) (parts : RuleParts) (text : List ℕ) (more : RuleParts) → ArePartsValid parts → with_part line parts text ≡ Ok more
    → ArePartsValid more
unfolding with_part
with_part-valid line parts text more v h =
    let sides = and_then_ok (ok_or (split_once 61 text) (BadRule line)) _ more h in
    let name = and_then_ok (name_of line sides.0.0) _ more sides.2 in
    with_part_value-valid line parts name.0 sides.0.1 more v (not_refused (is_present parts name.0) (PartTwice line) _ more name.2).1

with_parts-valid : (line : ℕ) (parts : RuleParts) (texts : List (List ℕ)) (all : RuleParts) → ArePartsValid parts → with_parts line parts texts ≡ Ok all
    → ArePartsValid all
with_parts-valid line parts [] all v h =
    let same : parts ≡ all = cc in
    subst ArePartsValid same v
with_parts-valid line parts (text ∷ texts) all v h =
    let step = and_then_ok (with_part line parts text) (λ more. with_parts line more texts) all h in
    with_parts-valid line step.0 texts all (with_part-valid line parts text step.0 v step.1) step.2

pub rule_parts-valid : (line : ℕ) (text : List ℕ) (parts : RuleParts) → rule_parts line text ≡ Ok parts → ArePartsValid parts
unfolding rule_parts parts_of
rule_parts-valid line text parts = with_parts-valid line no_parts (pieces 59 (without_last_semicolon (line_value text))) parts no_parts-valid
