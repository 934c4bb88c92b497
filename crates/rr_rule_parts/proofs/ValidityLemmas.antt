-- A rule that is read is valid beside a start that it takes.
use Rattle.std.proofs.Common.{◌≡◌, ℕ, ◌<◌, ◌≤◌, Option, None, Some, Ok, refl, subst, arith}
use Rattle.std.specs.Prelude.{IsTrue, unwrap_or, ok_or}
use Rattle.std.specs.Option.{IfSome}
use Rattle.rr_model.specs.Rule.Validity.{IsCount, HasCountInRange, is_allowed, takes_start, IsValidRule, EndsInYears}
use Rattle.rr_rule_parts.specs.Rules.{end_of, rule_with, rule_of}
use Rattle.rr_model.specs.declared.kind.Kind.{Kind}
use Rattle.rr_model.specs.declared.refusal.Refusal.TheVariants.{BadRule, NotAllowed}
use Rattle.rr_model.specs.declared.rule.End.{End}
use Rattle.rr_model.specs.declared.rule.End.TheVariants.{Never, Until, Count}
use Rattle.rr_model.specs.declared.rule.Freq.{Freq}
use Rattle.rr_model.specs.declared.rule.Rule.{Rule}
use Rattle.rr_rule_parts.specs.declared.rule_parts.RuleParts.{RuleParts}
use Rattle.rr_model.specs.declared.stamp.Stamp.{Stamp}
use Rattle.rr_text.proofs.StepLemmas.{and_then_ok, passed, unwrap_or-keeps}
use Rattle.rr_text.specs.Stamps.{IsStamp}
use Rattle.rr_ical.proofs.BesideLemmas.{FitsUntil}
use Rattle.rr_rule_parts.proofs.ValidPartsLemmas.{ArePartsValid}

-- ---- the rule

-- the COUNT of an end is in its range, and its UNTIL lies in the years 1 to 9999
pub end_of-valid : (until : Option Stamp) (count : Option ℕ) (end : End) → IfSome until IsStamp → IfSome count IsCount → end_of until count ≡ Ok end
    → HasCountInRange end × EndsInYears end
end_of-valid None None end u c h =
    let e : Never ≡ end = cc in
    subst (λ x. HasCountInRange x × EndsInYears x) e (tt, tt)
end_of-valid None (Some n) end u c h =
    let e : Count n ≡ end = cc in
    subst (λ x. HasCountInRange x × EndsInYears x) e (c, tt)
end_of-valid (Some stamp) None end u c h =
    let e : Until stamp.kind stamp.at ≡ end = cc in
    subst (λ x. HasCountInRange x × EndsInYears x) e (tt, u.0)
end_of-valid (Some stamp) (Some n) end u c h = absurd (cc)

-- the rule is valid beside a start that it takes
abbrev pub IsValidBeside : Rule → Type 0
IsValidBeside rule = ((kind : Kind) → IsTrue (takes_start rule.freq kind) → IsValidRule kind rule) × EndsInYears rule.end

pub rule_with-valid : (freq : Freq) (end : End) (parts : RuleParts) → ArePartsValid parts → HasCountInRange end × EndsInYears end
    → IsTrue (is_allowed (rule_with freq end parts)) → IsValidBeside (rule_with freq end parts)
rule_with-valid freq end parts v ends allowed = (
  λ kind taken. record {
    interval_low = interval.0;
    interval_high = interval.1;
    months = v.months;
    week_numbers = v.week_numbers;
    year_days = v.year_days;
    month_days = v.month_days;
    days = v.days;
    hours = v.hours;
    minutes = v.minutes;
    seconds = v.seconds;
    set_positions = v.set_positions;
    week_start = unwrap_or-keeps (λ d. d < 7) parts.week_start 0 (omega arith) v.week_start;
    count = ends.0;
    rising = record {
      months = v.months_rise;
      week_numbers = v.week_numbers_rise;
      year_days = v.year_days_rise;
      month_days = v.month_days_rise;
      days = v.days_rise;
      hours = v.hours_rise;
      minutes = v.minutes_rise;
      seconds = v.seconds_rise;
      set_positions = v.set_positions_rise;
    };
    parts = allowed;
    start = taken;
  },
  ends.1,
)
  where
    interval : (1 ≤ unwrap_or parts.interval 1) × (unwrap_or parts.interval 1 ≤ 4_294_967_295)
    interval = unwrap_or-keeps (λ n. (1 ≤ n) × (n ≤ 4_294_967_295)) parts.interval 1 (omega arith, omega arith) v.interval

pub rule_of-valid : (line : ℕ) (parts : RuleParts) (rule : Rule) → ArePartsValid parts → rule_of line parts ≡ Ok rule → IsValidBeside rule
unfolding rule_of
rule_of-valid line parts rule v h =
    let freq = and_then_ok (ok_or parts.freq (BadRule line)) _ rule h in
    let end = and_then_ok (end_of parts.until parts.count) _ rule freq.2 in
    let allowed = passed (is_allowed (rule_with freq.0 end.0 parts)) (Ok (rule_with freq.0 end.0 parts)) NotAllowed rule end.2 in
    let same : rule_with freq.0 end.0 parts ≡ rule = cc in
    subst IsValidBeside same (rule_with-valid freq.0 end.0 parts v (end_of-valid parts.until parts.count end.0 v.until v.count end.1) allowed.0)

-- ---- the end as UNTIL states it

pub end_of-fits : (until : Option Stamp) (count : Option ℕ) (end : End) → IfSome until IsStamp → end_of until count ≡ Ok end → FitsUntil until end
end_of-fits None None end u h =
    let e : Never ≡ end = cc in
    subst (λ x. FitsUntil None x) e tt
end_of-fits None (Some n) end u h =
    let e : Count n ≡ end = cc in
    subst (λ x. FitsUntil None x) e tt
end_of-fits (Some stamp) None end u h =
    let e : Until stamp.kind stamp.at ≡ end = cc in
    subst (λ x. FitsUntil (Some stamp) x) e (u, refl)
end_of-fits (Some stamp) (Some n) end u h = absurd (cc)

pub rule_of-fits : (line : ℕ) (parts : RuleParts) (rule : Rule) → IfSome parts.until IsStamp → rule_of line parts ≡ Ok rule → FitsUntil parts.until rule.end
unfolding rule_of
rule_of-fits line parts rule u h =
    let freq = and_then_ok (ok_or parts.freq (BadRule line)) _ rule h in
    let end = and_then_ok (end_of parts.until parts.count) _ rule freq.2 in
    let allowed = passed (is_allowed (rule_with freq.0 end.0 parts)) (Ok (rule_with freq.0 end.0 parts)) NotAllowed rule end.2 in
    let same : rule_with freq.0 end.0 parts ≡ rule = cc in
    subst (λ (r : Rule). FitsUntil parts.until r.end) same (end_of-fits parts.until parts.count end.0 u end.1)
