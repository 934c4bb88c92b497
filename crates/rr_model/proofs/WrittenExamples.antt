-- Worked texts that are written, and read back.
use Rattle.std.proofs.Common.{◌≡◌, [], ◌∷◌, pos, neg_ℤ, false, refl}
use Rattle.std.specs.Prelude.{codes, None, Ok}
use Rattle.std.specs.Fmt.{digits}
use Rattle.serde_json.proofs.OnLiterals.{serde_json_on_literals}
use Rattle.rr_model.specs.Calendar.{day_number, first_day_of_year, days_of_months, year_of, days_into_year, months_over, month_of, day_of_month, weekday_of}
use Rattle.rr_model.specs.Calendar.{day_of_year}
use Rattle.rr_model.specs.Whole.Count.{count_from}
use Rattle.rr_model.specs.Calendar.Week.{week_index}
use Rattle.rr_model.specs.Text.Moments.{is_digits, number_at, basic_date, basic_time, basic_moment, basic, extended_date_text, extended_time_text}
use Rattle.rr_model.specs.Text.Moments.{extended_text}
use Rattle.rr_model.specs.declared.kind.Kind.TheVariants.{Days, Moments}
use Rattle.rr_model.specs.declared.rule.End.TheVariants.{Never, Both}
use Rattle.rr_model.specs.Text.RuleValues.{weekday_named, number_up_to}
use Rattle.rr_model.specs.Text.Rules.{line_value}
use Rattle.rr_model.specs.Text.Lines.{physical_lines, unfolded_lines}
use Rattle.rr_model.specs.Text.UsedLines.{value_of_line, line_kind}
use Rattle.rr_model.specs.Text.Event.{left_by, event_scan}
use Rattle.rr_model.specs.Vcal.Rule.{head_of, parts_of_head, with_word, stated_vrule}
use Rattle.rr_model.specs.Vcal.Reading.{vrule_beside, reads_vcal}
use Rattle.rr_model.specs.Text.ExtendedMoments.{extended_date_of, extended_time_of, extended_moment_of, extended}
use Rattle.rr_model.specs.Graph.Members.{form_named, day_named, index_named, json_object}
use Rattle.rr_model.specs.Graph.Reading.{form_in, interval_in, days_in, first_day_in, index_in, pattern_of, end_type_named, range_of, recurrence_of}
use Rattle.rr_model.specs.Graph.Reading.{start_moment, event_of, bare_of, graph_text}
use Rattle.rr_model.specs.Graph.Occurrences.{is_pattern_day, first_from, first_repeat_day}
use Rattle.rr_model.specs.Graph.Counterpart.{rule_of_pattern, series_of_graph}
use Rattle.rr_model.specs.Graph.Text.{form_text, day_text, index_text, graph_written}
use Rattle.rr_model.specs.Text.Written.{basic_date_text, basic_time_text, basic_text, folded_text, freq_text, weekday_text, rule_text, calendar_written}
use Rattle.rr_model.specs.Vcal.Written.{family_text, vrule_text, vcal_written}
use Rattle.rr_model.specs.declared.graph.Form.TheVariants.{Weekly, AbsoluteMonthly, RelativeMonthly}
use Rattle.rr_model.specs.declared.graph.GraphEvent.{GraphEvent}
use Rattle.rr_model.specs.declared.graph.RangeEnd.TheVariants.{NoEnd, EndDate, Numbered}
use Rattle.rr_model.specs.declared.graph.Repeat.TheVariants as repeat
use Rattle.rr_model.specs.declared.vcal.FamilyKind.TheVariants as family
use Rattle.rr_model.specs.declared.item.Item.TheVariants.{Every, MonthDay, Place}
use Rattle.rr_model.specs.declared.vcal.VSeries.{VSeries}

foldings :
    (folded_text (codes "short") ≡ codes "short")
    × (folded_text (codes "0123456789012345678901234567890123456789012345678901234567890123456789012345678")
    ≡ codes "012345678901234567890123456789012345678901234567890123456789012345678901234\r\n 5678")
    × (folded_text (codes "012345678901234567890123456789012345678901234567890123456789012345678901234")
    ≡ codes "012345678901234567890123456789012345678901234567890123456789012345678901234")
unfolding folded_text
foldings = (refl, refl, refl)

abbrev march : VSeries
march = record {
  kind = Days;
  start = pos 19_753;
  rules = record { family = family.MD; interval = 1; items = MonthDay (pos 1) ∷ MonthDay (neg_ℤ (pos 1)) ∷ MonthDay (neg_ℤ (pos 2)) ∷ []; end = Never }
      ∷ record {
        family = family.MP;
        interval = 2;
        items = Place (pos 1) 0 ∷ Place (pos 1) 2 ∷ Place (neg_ℤ (pos 1)) 4 ∷ [];
        end =
            Both Days (pos 19_756) 5;
      } ∷ [];
  excluded = record { family = family.D; interval = 2; items = Every ∷ []; end = Never } ∷ [];
  plus = [];
  minus = pos 19_756 ∷ [];
}

vcals :
    (vcal_written march ≡ codes "DTSTART:20240131\r\nRRULE:MD1 1 LD 2- #0\r\nRRULE:MP2 1+ MO WE 1- FR #5 20240203\r\nEXRULE:D2 #0\r\nEXDATE:20240203\r\n")
unfolding digits first_day_of_year days_of_months year_of days_into_year months_over month_of day_of_month basic_date_text basic_time_text basic_text
    weekday_text family_text vrule_text vcal_written
vcals = refl

abbrev pub meeting : GraphEvent
meeting = record {
  kind = Moments;
  start = pos 1_704_187_800;
  repeat = repeat.Pattern (record { form = Weekly; interval = 2; day_of_month = 0; month = 0; days = 20; first_day = 6; index = pos 1 })
      (record { start_day = pos 19_724; end = EndDate (pos 19_904) });
}

abbrev pub month_end : GraphEvent
month_end = record {
  kind = Days;
  start = pos 19_753;
  repeat = repeat.Pattern (record { form = AbsoluteMonthly; interval = 1; day_of_month = 31; month = 0; days = 0; first_day = 6; index = pos 1 })
      (record { start_day = pos 19_753; end = NoEnd });
}

abbrev late : GraphEvent
late = record {
  kind = Days;
  start = pos 19_725;
  repeat = repeat.Pattern (record { form = Weekly; interval = 2; day_of_month = 0; month = 0; days = 2; first_day = 0; index = pos 1 })
      (record { start_day = pos 19_725; end = Numbered 2 });
}

calendars :
    (calendar_written (series_of_graph meeting) ≡ codes "DTSTART:20240102T093000\r\nRRULE:FREQ=WEEKLY;UNTIL=20240630T093000;INTERVAL=2;WKST=SU;BYDAY=TU,TH\r\n")
    × (calendar_written (series_of_graph month_end) ≡ codes "DTSTART;VALUE=DATE:20240131\r\nRRULE:FREQ=MONTHLY;BYMONTHDAY=28,29,30,31;BYSETPOS=-1\r\n")
    × (calendar_written (series_of_graph late) ≡ codes "DTSTART;VALUE=DATE:20240115\r\nRRULE:FREQ=WEEKLY;COUNT=2;INTERVAL=2;BYDAY=MO\r\n")
    × (calendar_written (record { kind = Days; start = pos 0; start_counts = false; rules = []; excluded = []; plus = []; minus = [] })
    ≡ codes "DTSTART;VALUE=DATE:19700101\r\nEXDATE;VALUE=DATE:19700101\r\n")
unfolding digits first_day_of_year days_of_months year_of days_into_year months_over month_of day_of_month weekday_of week_index is_pattern_day first_from
    first_repeat_day rule_of_pattern series_of_graph basic_date_text basic_time_text basic_text folded_text freq_text weekday_text rule_text calendar_written
calendars = (refl, refl, refl, refl)

graphs :
    (graph_written Days (pos 19_753) (record {
      form = AbsoluteMonthly;
      interval = 1;
      day_of_month = 31;
      month = 0;
      days = 0;
      first_day = 6;
      index =
          pos 1;
    }) (record { start_day = pos 19_753; end = NoEnd })
    ≡ codes "{\"pattern\":{\"dayOfMonth\":31,\"interval\":1,\"type\":\"absoluteMonthly\"},\"range\":{\"startDate\":\"2024-01-31\",\"type\":\"noEnd\"}}\n")
    × (graph_written Days (pos 19_739) (record {
      form = RelativeMonthly;
      interval = 1;
      day_of_month = 0;
      month = 0;
      days = 8;
      first_day = 6;
      index =
          pos 3;
    }) (record { start_day = pos 19_739; end = NoEnd })
    ≡ codes "{\"pattern\":{\"daysOfWeek\":[\"wednesday\"],\"index\":\"third\",\"interval\":1,\"type\":\"relativeMonthly\"},\"range\":{\"startDate\":\"2024-01-17\",\"type\":\"noEnd\"}}\n")
    × (graph_written Moments (pos 1_704_187_800)
    (record { form = Weekly; interval = 2; day_of_month = 0; month = 0; days = 20; first_day = 6; index = pos 1 })
    (record { start_day = pos 19_724; end = EndDate (pos 19_904) })
    ≡ codes "{\"isAllDay\":false,\"recurrence\":{\"pattern\":{\"daysOfWeek\":[\"tuesday\",\"thursday\"],\"firstDayOfWeek\":\"sunday\",\"interval\":2,\"type\":\"weekly\"},\"range\":{\"endDate\":\"2024-06-30\",\"startDate\":\"2024-01-02\",\"type\":\"endDate\"}},\"start\":{\"dateTime\":\"2024-01-02T09:30:00\"}}\n")
unfolding serde_json_on_literals digits first_day_of_year days_of_months year_of days_into_year months_over month_of day_of_month extended_date_text
    extended_time_text extended_text form_text day_text index_text graph_written
graphs = (refl, refl, refl)

-- ---- read back

vcal_read_back : reads_vcal None (vcal_written march) ≡ Ok march
unfolding digits first_day_of_year days_of_months year_of days_into_year months_over month_of day_of_month day_of_year basic_date_text basic_time_text
    basic_text folded_text weekday_text family_text vrule_text vcal_written physical_lines unfolded_lines value_of_line line_kind left_by event_scan
    head_of parts_of_head with_word stated_vrule vrule_beside reads_vcal day_number is_digits number_at basic basic_date basic_time basic_moment
    weekday_named number_up_to line_value
vcal_read_back = refl

graph_read_back :
    (graph_text None (graph_written Days (pos 19_753)
    (record { form = AbsoluteMonthly; interval = 1; day_of_month = 31; month = 0; days = 0; first_day = 6; index = pos 1 })
    (record { start_day = pos 19_753; end = NoEnd })) ≡ Ok month_end)
    × (graph_text None (graph_written Moments (pos 1_704_187_800)
    (record { form = Weekly; interval = 2; day_of_month = 0; month = 0; days = 20; first_day = 6; index = pos 1 })
    (record { start_day = pos 19_724; end = EndDate (pos 19_904) })) ≡ Ok meeting)
unfolding serde_json_on_literals digits day_number first_day_of_year days_of_months year_of days_into_year months_over month_of day_of_month weekday_of
    count_from week_index is_digits number_at basic_date basic_time extended_date_text extended_time_text extended_text form_text day_text index_text
    graph_written extended_date_of extended_time_of extended_moment_of extended form_named day_named index_named json_object is_pattern_day first_from
    first_repeat_day form_in interval_in days_in first_day_in index_in pattern_of end_type_named range_of recurrence_of start_moment event_of bare_of
    graph_text
graph_read_back = (refl, refl)
