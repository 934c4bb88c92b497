-- A rule with another end.
use Rattle.rr_model.specs.Rule.Validity.{HasCountInRange, IsValidRule}
use Rattle.rr_model.specs.declared.kind.Kind.{Kind}
use Rattle.rr_model.specs.declared.rule.End.{End}
use Rattle.rr_model.specs.declared.rule.Rule.{Rule}

-- another end with a COUNT in its range keeps a rule valid
pub with_end-valid : (kind : Kind) (rule : Rule) (end : End) → IsValidRule kind rule → HasCountInRange end → IsValidRule kind (record rule { end = end })
with_end-valid kind rule end v count = record {
  interval_low = v.interval_low;
  interval_high = v.interval_high;
  months = v.months;
  week_numbers = v.week_numbers;
  year_days = v.year_days;
  month_days = v.month_days;
  days = v.days;
  hours = v.hours;
  minutes = v.minutes;
  seconds = v.seconds;
  set_positions = v.set_positions;
  week_start = v.week_start;
  count = count;
  rising = record {
    months = v.rising.months;
    week_numbers = v.rising.week_numbers;
    year_days = v.rising.year_days;
    month_days = v.rising.month_days;
    days = v.rising.days;
    hours = v.rising.hours;
    minutes = v.rising.minutes;
    seconds = v.rising.seconds;
    set_positions = v.rising.set_positions;
  };
  parts = v.parts;
  start = v.start;
}
