-- Worked calendars that are written, and read back.
use Rattle.std.proofs.Common.{◌≡◌, [], ◌∷◌, pos, true, false, refl}
use Rattle.std.specs.Prelude.{None, Ok}
use Rattle.std.specs.Fmt.{digits}
use Rattle.rr_model.specs.Calendar.{day_number, first_day_of_year, days_of_months, year_of, days_into_year, months_over, month_of, day_of_month, weekday_of}
use Rattle.rr_model.specs.Calendar.{day_of_year}
use Rattle.rr_model.specs.Calendar.Week.{week_index}
use Rattle.rr_model.specs.Text.Moments.{is_digits, number_at, basic_date, basic_time, basic_moment, basic}
use Rattle.rr_model.specs.declared.kind.Kind.TheVariants.{Days}
use Rattle.rr_model.specs.declared.rule.Series.{Series}
use Rattle.rr_model.specs.Text.RuleValues.{freq_named, weekday_named, number_up_to}
use Rattle.rr_rule_parts.specs.Values.{number_within, numbers_of, day_item_within, day_items_of}
use Rattle.rr_model.specs.Text.Rules.{line_value}
use Rattle.rr_rule_parts.specs.Rules.{part_named, name_of, with_part, parts_of, rule_of, rule_parts}
use Rattle.rr_model.specs.Text.Lines.{physical_lines, unfolded_lines}
use Rattle.rr_model.specs.Text.UsedLines.{value_of_line, line_kind}
use Rattle.rr_model.specs.Text.Event.{left_by, event_scan}
use Rattle.rr_rule_parts.specs.Calendars.{stated_rule, rule_beside, calendar_text}
use Rattle.rr_model.specs.Graph.Occurrences.{is_pattern_day, first_from, first_repeat_day}
use Rattle.rr_model.specs.Graph.Counterpart.{rule_of_pattern, series_of_graph}
use Rattle.rr_model.specs.Text.Written.{basic_date_text, basic_time_text, basic_text, folded_text, freq_text, weekday_text, rule_text, calendar_written}
use Rattle.rr_model.proofs.WrittenExamples.{meeting, month_end}

abbrev empty_series : Series
empty_series = record { kind = Days; start = pos 0; start_counts = false; rules = []; excluded = []; plus = []; minus = [] }

read_back :
    (calendar_text None (calendar_written (series_of_graph meeting)) ≡ Ok (series_of_graph meeting))
    × (calendar_text None (calendar_written (series_of_graph month_end)) ≡ Ok (series_of_graph month_end))
    × (calendar_text None (calendar_written empty_series)
    ≡ Ok (record { kind = Days; start = pos 0; start_counts = true; rules = []; excluded = []; plus = []; minus = pos 0 ∷ [] }))
unfolding digits first_day_of_year days_of_months year_of days_into_year months_over month_of day_of_month day_of_year weekday_of week_index is_pattern_day
    first_from first_repeat_day rule_of_pattern series_of_graph basic_date_text basic_time_text basic_text folded_text freq_text weekday_text rule_text
    calendar_written physical_lines unfolded_lines value_of_line line_kind left_by event_scan stated_rule rule_beside calendar_text day_number is_digits
    number_at basic basic_date basic_time basic_moment freq_named weekday_named number_up_to number_within numbers_of day_item_within day_items_of
    part_named name_of with_part parts_of rule_of rule_parts line_value
read_back = (refl, refl, refl)
