-- The series of RFC 5545, section 3.3.10, that has the occurrences of a Graph event.
use Rattle.std.specs.Prelude.{ℕ, ◌/◌, ◌%◌, ◌==◌, nat_le, map, Bool, true, false, if◌then◌else◌, ℤ, pos, neg_ℤ, List, [], ◌∷◌, unwrap_or}
use Rattle.std.specs.List.{filter}
use Rattle.rr_model.specs.Moment.{second_part, moment_at}
use Rattle.rr_model.specs.declared.kind.Kind.{Kind}
use Rattle.rr_model.specs.declared.rule.DayItem.{DayItem}
use Rattle.rr_model.specs.declared.rule.End.{End}
use Rattle.rr_model.specs.declared.rule.End.TheVariants.{Never, Until, Count}
use Rattle.rr_model.specs.declared.rule.Freq.{Freq}
use Rattle.rr_model.specs.declared.rule.Freq.TheVariants as freq
use Rattle.rr_model.specs.declared.rule.Rule.{Rule}
use Rattle.rr_model.specs.declared.rule.Series.{Series}
use Rattle.rr_model.specs.Graph.Uses.{bit_of, uses_days, uses_index, uses_day_of_month, uses_month}
use Rattle.rr_model.specs.Graph.Occurrences.{first_repeat_day}
use Rattle.rr_model.specs.Vcal.Counterpart.{day_item}
use Rattle.rr_model.specs.declared.graph.Form.{Form}
use Rattle.rr_model.specs.declared.graph.Form.TheVariants.{Daily, Weekly, AbsoluteMonthly, RelativeMonthly, AbsoluteYearly, RelativeYearly}
use Rattle.rr_model.specs.declared.graph.GraphEvent.{GraphEvent}
use Rattle.rr_model.specs.declared.graph.Pattern.{Pattern}
use Rattle.rr_model.specs.declared.graph.RangeEnd.{RangeEnd}
use Rattle.rr_model.specs.declared.graph.RangeEnd.TheVariants.{NoEnd, EndDate, Numbered}
use Rattle.rr_model.specs.declared.graph.Repeat.{Repeat}
use Rattle.rr_model.specs.declared.graph.Repeat.TheVariants as repeat

-- the frequency of the counterpart
abbrev pub form_freq : Form → Freq
form_freq Daily = freq.Daily
form_freq Weekly = freq.Weekly
form_freq AbsoluteMonthly = freq.Monthly
form_freq RelativeMonthly = freq.Monthly
form_freq AbsoluteYearly = freq.Yearly
form_freq RelativeYearly = freq.Yearly

-- the sum of days has this weekday
abbrev pub has_weekday : ℕ → ℕ → Bool
has_weekday days weekday = (days / bit_of weekday) % 2 == 1

-- the weekdays of a sum of days, as values of BYDAY
abbrev pub days_of_sum : ℕ → List DayItem
days_of_sum days = map (λ weekday. day_item (pos 0) weekday) (filter (has_weekday days) (0 ∷ 1 ∷ 2 ∷ 3 ∷ 4 ∷ 5 ∷ 6 ∷ []))

-- a part if the type uses its member
abbrev pub if_part : {X : Type 0} → Bool → List X → List X
if_part true values = values
if_part false values = []

-- the days 28 up to a day of 29 to 31, or that one day
abbrev pub month_days_up_to : ℕ → List ℤ
month_days_up_to day =
    if nat_le day 28 then pos day ∷ []
    else (if day == 29 then pos 28 ∷ pos 29 ∷ [] else (if day == 30 then pos 28 ∷ pos 29 ∷ pos 30 ∷ [] else pos 28 ∷ pos 29 ∷ pos 30 ∷ pos 31 ∷ []))

-- the last of those days, or the day of the index
abbrev pub set_positions_of : Pattern → List ℤ
set_positions_of pattern =
    if uses_index pattern.form then pattern.index ∷ []
    else (if uses_day_of_month pattern.form then (if nat_le pattern.day_of_month 28 then [] else neg_ℤ (pos 1) ∷ []) else [])

-- the end of the counterpart, on the last day at the start's second
abbrev pub end_of_range : Kind → ℕ → RangeEnd → End
end_of_range kind second NoEnd = Never
end_of_range kind second (EndDate day) = Until kind (moment_at kind day second)
end_of_range kind second (Numbered n) = Count n

-- weeks begin as a weekly pattern says, and otherwise on Monday
abbrev pub week_start_of : Form → ℕ → ℕ
week_start_of Weekly first_day = first_day
week_start_of form first_day = 0

-- the rule that chooses the pattern's days
unfoldable pub rule_of_pattern : Pattern → End → Rule
rule_of_pattern pattern end = record {
  freq = form_freq pattern.form;
  interval = pattern.interval;
  by_month = if_part (uses_month pattern.form) (pos pattern.month ∷ []);
  by_week_no = [];
  by_year_day = [];
  by_month_day = if_part (uses_day_of_month pattern.form) (month_days_up_to pattern.day_of_month);
  by_day = if_part (uses_days pattern.form) (days_of_sum pattern.days);
  by_hour = [];
  by_minute = [];
  by_second = [];
  by_set_pos = set_positions_of pattern;
  week_start = week_start_of pattern.form pattern.first_day;
  end = end;
}

-- the series that starts at the first occurrence
abbrev pub series_from : Kind → ℤ → List Rule → Series
series_from kind start rules = record { kind = kind; start = start; start_counts = true; rules = rules; excluded = []; plus = []; minus = [] }

-- the series of an event that repeats, or of its start alone
abbrev pub series_of_repeat : Repeat → Kind → ℤ → Series
series_of_repeat repeat.Once kind start = series_from kind start []
series_of_repeat (repeat.Pattern pattern range) kind start =
    series_from kind (moment_at kind (unwrap_or (first_repeat_day pattern range) range.start_day) (second_part kind start))
    (rule_of_pattern pattern (end_of_range kind (second_part kind start) range.end) ∷ [])

-- the counterpart of an event
unfoldable pub series_of_graph : GraphEvent → Series
series_of_graph event = series_of_repeat event.repeat event.kind event.start
