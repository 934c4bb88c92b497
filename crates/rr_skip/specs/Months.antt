-- Which days a rule chooses that says what becomes of a day which a month lacks (RFC 7529, section 4.1).
use Rattle.std.specs.Prelude.{ℕ, ◌+◌, ◌==◌, Bool, false, ◌&&◌, ◌||◌, if◌then◌else◌, ℤ, pos, ◌+ℤ◌, ◌-ℤ◌, int_le}
use Rattle.std.specs.List.{list_any}
use Rattle.std.specs.Ordering.{int_eq}
use Rattle.rr_model.specs.Whole.{floor_div, floor_mod, divides}
use Rattle.rr_model.specs.Calendar.{days_in_month}
use Rattle.rr_model.specs.Moment.{day_part, second_part}
use Rattle.rr_model.specs.Moment.Units.{month_number, first_day_of_month}
use Rattle.rr_model.specs.Rule.Candidate.{allows}
use Rattle.rr_model.specs.Rule.Filled.{filled_rule}
use Rattle.rr_model.specs.declared.kind.Kind.{Kind}
use Rattle.rr_model.specs.declared.kind.Kind.TheVariants.{Days}
use Rattle.rr_model.specs.declared.rule.Freq.{Freq}
use Rattle.rr_model.specs.declared.rule.Freq.TheVariants.{Yearly}
use Rattle.rr_skip.specs.declared.schedule.Schedule.{Schedule}
use Rattle.rr_skip.specs.declared.series.Skip.{Skip}
use Rattle.rr_skip.specs.declared.series.Skip.TheVariants.{Omit, Backward, Forward}
use Rattle.rr_skip.specs.declared.series.SkipRule.{SkipRule}

-- ---- months, by their numbers

-- the unit of a month: its year in a yearly rule, and otherwise the month itself
abbrev pub unit_of_month : Freq → ℤ → ℤ
unit_of_month Yearly n = floor_div n 12
unit_of_month freq n = n

-- the month's number in its year, from 1
abbrev pub month_of_year : ℤ → ℕ
month_of_year n = floor_mod n 12 + 1

-- how many days the month has
abbrev pub length_of_month : ℤ → ℕ
length_of_month n = days_in_month (floor_div n 12) (month_of_year n)

-- ---- the months of a rule

-- which months a rule asks for, and which of their days: BYMONTH and BYMONTHDAY, if the rule lacks and wants them, are taken from its start
abbrev pub schedule_of : SkipRule → ℤ → Schedule
schedule_of rule start_day = record {
  skip = rule.skip;
  freq = rule.rule.freq;
  interval = rule.rule.interval;
  start_unit = unit_of_month rule.rule.freq (month_number start_day);
  months = (filled_rule rule.rule Days start_day).by_month;
  days = (filled_rule rule.rule Days start_day).by_month_day;
}

-- the month is due: its unit is a whole number of intervals from that of the start, and BYMONTH allows it
abbrev pub is_due : Schedule → ℤ → Bool
is_due schedule n = divides schedule.interval (unit_of_month schedule.freq n -ℤ schedule.start_unit) && allows schedule.months (pos (month_of_year n))

-- ---- days of a month, by their offsets from its first day

-- a listed day that a month of `size` days lacks falls at the offset
abbrev pub is_offset_of_lacking : Skip → ℕ → ℤ → Bool
is_offset_of_lacking Omit size offset = false
is_offset_of_lacking Backward size offset = int_eq (offset +ℤ pos 1) (pos size)
is_offset_of_lacking Forward size offset = int_eq offset (pos size)

-- the k-th day of a month of `size` days falls at the offset
abbrev pub falls_at : Skip → ℕ → ℤ → ℤ → Bool
falls_at skip size offset k = if int_le k (pos size) then int_eq (offset +ℤ pos 1) k else is_offset_of_lacking skip size offset

-- some listed day of the month falls on d
abbrev pub some_falls_on : Schedule → ℤ → ℤ → Bool
some_falls_on schedule n d = list_any (λ k. falls_at schedule.skip (length_of_month n) (d -ℤ first_day_of_month n) k) schedule.days

-- the month is due, and some listed day of it falls on d
abbrev pub gives_day : Schedule → ℤ → ℤ → Bool
gives_day schedule n d = is_due schedule n && some_falls_on schedule n d

-- ---- what is chosen

-- the day is chosen: its own month gives it, or the month before
unfoldable pub is_day_chosen : Schedule → ℤ → Bool
is_day_chosen schedule d = gives_day schedule (month_number d) d || gives_day schedule (month_number d -ℤ pos 1) d

-- the rule with this start chooses t: its day is chosen, and its second is the start's
abbrev pub is_skip_chosen : SkipRule → Kind → ℤ → ℤ → Bool
is_skip_chosen rule kind start t =
    is_day_chosen (schedule_of rule (day_part kind start)) (day_part kind t) && (second_part kind t == second_part kind start)
