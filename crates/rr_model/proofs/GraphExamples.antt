-- Worked events of Graph.
use Rattle.std.proofs.Common.{◌≡◌, ℕ, List, ℤ, pos, neg_ℤ, refl}
use Rattle.std.specs.Prelude.{codes, None, Some, Ok, Err}
use Rattle.serde_json.proofs.OnLiterals.{serde_json_on_literals}
use Rattle.rr_model.specs.Calendar.{day_number, first_day_of_year, days_of_months, year_of, days_into_year, months_over, month_of, day_of_month, weekday_of}
use Rattle.rr_model.specs.Whole.Count.{count_from}
use Rattle.rr_model.specs.Calendar.Week.{week_index}
use Rattle.rr_model.specs.Text.Moments.{is_digits, number_at, basic_date, basic_time}
use Rattle.rr_model.specs.declared.kind.Kind.TheVariants.{Days, Moments}
use Rattle.rr_model.specs.Text.ExtendedMoments.{extended_date_of, extended_time_of, extended_moment_of, extended}
use Rattle.rr_model.specs.Graph.Members.{form_named, day_named, index_named, json_object}
use Rattle.rr_model.specs.Graph.Occurrences.{is_pattern_day, first_from, first_repeat_day}
use Rattle.rr_model.specs.Graph.Reading.{form_in, interval_in, days_in, first_day_in, index_in, pattern_of, end_type_named, range_of, recurrence_of}
use Rattle.rr_model.specs.Graph.Reading.{start_moment, event_of, bare_of, graph_text}
use Rattle.rr_model.specs.declared.kind.Kind.{Kind}
use Rattle.rr_model.specs.declared.graph.Form.{Form}
use Rattle.rr_model.specs.declared.graph.Range.{Range}
use Rattle.rr_model.specs.declared.graph.RangeEnd.{RangeEnd}
use Rattle.rr_model.specs.declared.refusal.Refusal.{Refusal}
use Rattle.rr_model.specs.declared.graph.Form.TheVariants.{Weekly, AbsoluteMonthly}
use Rattle.rr_model.specs.declared.graph.GraphEvent.{GraphEvent}
use Rattle.rr_model.specs.declared.graph.Pattern.{Pattern}
use Rattle.rr_model.specs.declared.graph.RangeEnd.TheVariants.{NoEnd, EndDate, Numbered}
use Rattle.rr_model.specs.declared.graph.Repeat.TheVariants as repeat
use Rattle.rr_model.specs.declared.refusal.Member.TheVariants as of
use Rattle.rr_model.specs.declared.refusal.Refusal.TheVariants.{NoStart, BadJson, BadMember, StartDiffers, NoOccurrence, IntervalTooLarge}

abbrev pattern : Form → ℕ → ℕ → ℕ → ℕ → Pattern
pattern form interval day_of_month days first_day =
    record { form = form; interval = interval; day_of_month = day_of_month; month = 0; days = days; first_day = first_day; index = pos 1 }

abbrev range : ℤ → RangeEnd → Range
range start_day end = record { start_day = start_day; end = end }

abbrev event : Kind → ℤ → Pattern → Range → GraphEvent
event kind start pattern range = record { kind = kind; start = start; repeat = repeat.Pattern pattern range }

readings :
    (graph_text None (codes "{\"subject\":\"Review\",\"isAllDay\":false,\"start\":{\"dateTime\":\"2024-01-02T09:30:00.0000000\",\"timeZone\":\"Pacific Standard Time\"},\"recurrence\":{\"pattern\":{\"type\":\"weekly\",\"interval\":2,\"month\":0,\"dayOfMonth\":0,\"daysOfWeek\":[\"tuesday\",\"thursday\"],\"firstDayOfWeek\":\"sunday\",\"index\":\"first\"},\"range\":{\"type\":\"endDate\",\"startDate\":\"2024-01-02\",\"endDate\":\"2024-06-30\",\"recurrenceTimeZone\":\"Pacific Standard Time\",\"numberOfOccurrences\":0}}}") ≡ Ok (event Moments (pos 1_704_187_800) (pattern Weekly 2 0 20 6) (range (pos 19_724) (EndDate (pos 19_904)))))
    × (graph_text None (codes
    "{\"pattern\":{\"type\":\"absoluteMonthly\",\"interval\":1,\"dayOfMonth\":31},\"range\":{\"type\":\"noEnd\",\"startDate\":\"2024-01-31\"}}")
    ≡ Ok (event Days (pos 19_753) (pattern AbsoluteMonthly 1 31 0 6) (range (pos 19_753) NoEnd)))
    × (graph_text None (codes "{\"pattern\":{\"type\":\"weekly\",\"interval\":2,\"daysOfWeek\":[\"monday\"],\"firstDayOfWeek\":\"monday\"},\"range\":{\"type\":\"numbered\",\"startDate\":\"2024-01-03\",\"numberOfOccurrences\":2}}") ≡ Ok (event Days (pos 19_725) (pattern Weekly 2 0 2 0) (range (pos 19_725) (Numbered 2))))
    × (graph_text (Some (neg_ℤ (pos 28_800))) (codes "{\"start\":{\"dateTime\":\"2024-01-02T04:00:00.0000000\",\"timeZone\":\"UTC\"},\"recurrence\":{\"pattern\":{\"type\":\"weekly\",\"interval\":1,\"daysOfWeek\":[\"monday\"]},\"range\":{\"type\":\"noEnd\",\"startDate\":\"2024-01-01\"}}}") ≡ Ok (event Moments (pos 1_704_139_200) (pattern Weekly 1 0 2 6) (range (pos 19_723) NoEnd)))
    × (graph_text None (codes "{\"isAllDay\":true,\"start\":{\"dateTime\":\"2024-01-01T23:00:00Z\"},\"recurrence\":null}")
    ≡ Ok (record { kind = Days; start = pos 19_723; repeat = repeat.Once }))
unfolding serde_json_on_literals day_number first_day_of_year days_of_months year_of days_into_year months_over month_of day_of_month weekday_of count_from
    week_index is_digits number_at basic_date basic_time extended_date_of extended_time_of extended_moment_of extended form_named day_named index_named
    json_object is_pattern_day first_from first_repeat_day form_in interval_in days_in first_day_in index_in pattern_of end_type_named range_of
    recurrence_of start_moment event_of bare_of graph_text
readings = (refl, refl, refl, refl, refl)

abbrev refused : List ℕ → Refusal → Type 0
refused text refusal = graph_text None text ≡ Err refusal

refusals :
    refused (codes "{\"pattern\":") BadJson
    × refused (codes "[]") BadJson
    × refused (codes "{\"pattern\":null}") NoStart
    × refused (codes "{\"pattern\":{\"type\":\"weekly\",\"interval\":0,\"daysOfWeek\":[\"monday\"],\"firstDayOfWeek\":\"monday\"},\"range\":{\"type\":\"numbered\",\"startDate\":\"2024-01-03\",\"numberOfOccurrences\":2}}") (BadMember of.Interval)
    × refused (codes "{\"pattern\":{\"type\":\"weekly\",\"interval\":1000,\"daysOfWeek\":[\"monday\"],\"firstDayOfWeek\":\"monday\"},\"range\":{\"type\":\"numbered\",\"startDate\":\"2024-01-03\",\"numberOfOccurrences\":2}}") IntervalTooLarge
    × refused (codes "{\"pattern\":{\"type\":\"weekly\",\"interval\":2.0,\"daysOfWeek\":[\"monday\"],\"firstDayOfWeek\":\"monday\"},\"range\":{\"type\":\"numbered\",\"startDate\":\"2024-01-03\",\"numberOfOccurrences\":2}}") (BadMember of.Interval)
    × refused (codes "{\"subject\":\"Review\",\"isAllDay\":false,\"start\":{\"dateTime\":\"2024-01-02T09:30:00.0000000\",\"timeZone\":\"Pacific Standard Time\"},\"recurrence\":{\"pattern\":{\"type\":\"weekly\",\"interval\":2,\"month\":0,\"dayOfMonth\":0,\"daysOfWeek\":[\"tuesday\",\"thursday\"],\"firstDayOfWeek\":\"sunday\",\"index\":\"first\"},\"range\":{\"type\":\"endDate\",\"startDate\":\"2024-01-02\",\"endDate\":\"2023-12-31\",\"recurrenceTimeZone\":\"Pacific Standard Time\",\"numberOfOccurrences\":0}}}") NoOccurrence
    × refused (codes "{\"start\":{\"dateTime\":\"2024-01-02T04:00:00.0000000\",\"timeZone\":\"UTC\"},\"recurrence\":{\"pattern\":{\"type\":\"weekly\",\"interval\":1,\"daysOfWeek\":[\"monday\"]},\"range\":{\"type\":\"noEnd\",\"startDate\":\"2024-01-01\"}}}") StartDiffers
    × refused (codes "{\"start\":1}") (BadMember of.Start)
    × refused (codes "{\"start\":{\"dateTime\":\"2024-01-02\"}}") (BadMember of.DateTime)
    × refused (codes "{\"start\":{\"dateTime\":\"2024-01-02T00:00:00\",\"timeZone\":1},\"isAllDay\":1}") (BadMember of.TimeZone)
    × refused (codes "{\"start\":{\"dateTime\":\"2024-01-02T00:00:00\"},\"isAllDay\":1,\"recurrence\":1}") (BadMember of.IsAllDay)
    × refused (codes "{\"start\":{\"dateTime\":\"2024-01-02T00:00:00\"},\"recurrence\":1}") (BadMember of.Recurrence)
    × refused (codes "{\"pattern\":1}") (BadMember of.Pattern)
    × refused (codes "{\"pattern\":{}}") (BadMember of.Range)
    × refused (codes "{\"pattern\":{},\"range\":{}}") (BadMember of.PatternType)
    × refused (codes "{\"pattern\":{\"type\":\"weekly\",\"interval\":2,\"daysOfWeek\":[],\"firstDayOfWeek\":\"monday\"},\"range\":{\"type\":\"numbered\",\"startDate\":\"2024-01-03\",\"numberOfOccurrences\":2}}") (BadMember of.DaysOfWeek)
    × refused (codes "{\"pattern\":{\"type\":\"weekly\",\"interval\":2,\"daysOfWeek\":[\"monday\",null],\"firstDayOfWeek\":\"monday\"},\"range\":{\"type\":\"numbered\",\"startDate\":\"2024-01-03\",\"numberOfOccurrences\":2}}") (BadMember of.DaysOfWeek)
    × refused (codes "{\"pattern\":{\"type\":\"weekly\",\"interval\":2,\"daysOfWeek\":[\"monday\"],\"firstDayOfWeek\":1},\"range\":{\"type\":\"numbered\",\"startDate\":\"2024-01-03\",\"numberOfOccurrences\":2}}") (BadMember of.FirstDayOfWeek)
    × refused (codes "{\"pattern\":{\"type\":\"absoluteMonthly\",\"interval\":1,\"dayOfMonth\":32},\"range\":{\"type\":\"noEnd\",\"startDate\":\"2024-01-31\"}}") (BadMember of.DayOfMonth)
    × refused (codes "{\"pattern\":{\"type\":\"absoluteMonthly\",\"interval\":1,\"dayOfMonth\":31},\"range\":{\"type\":\"end\",\"startDate\":\"2024-01-31\"}}") (BadMember of.RangeType)
    × refused (codes "{\"pattern\":{\"type\":\"absoluteMonthly\",\"interval\":1,\"dayOfMonth\":31},\"range\":{\"type\":\"noEnd\",\"startDate\":\"2024-01-31T00:00:00\"}}") (BadMember of.StartDate)
    × refused (codes "{\"pattern\":{\"type\":\"weekly\",\"interval\":2,\"daysOfWeek\":[\"monday\"],\"firstDayOfWeek\":\"monday\"},\"range\":{\"type\":\"numbered\",\"startDate\":\"2024-01-03\",\"numberOfOccurrences\":0}}") (BadMember of.NumberOfOccurrences)
unfolding serde_json_on_literals day_number first_day_of_year days_of_months year_of days_into_year months_over month_of day_of_month weekday_of count_from
    week_index is_digits number_at basic_date basic_time extended_date_of extended_time_of extended_moment_of extended form_named day_named index_named
    json_object is_pattern_day first_from first_repeat_day form_in interval_in days_in first_day_in index_in pattern_of end_type_named range_of
    recurrence_of start_moment event_of bare_of graph_text
refusals = (refl, refl, refl, refl, refl, refl, refl, refl, refl, refl, refl, refl, refl, refl, refl, refl, refl, refl, refl, refl, refl, refl, refl)
