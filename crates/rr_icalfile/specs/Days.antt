-- Dates beside a start with a time of day, read as the occurrences of their days. RFC 5545 asks for a moment there (sections 3.8.4.4
-- and 3.8.5.1).
use Rattle.std.specs.Prelude.{ℕ, ◌==◌, Bool, true, false, not, ◌&&◌, if◌then◌else◌, ℤ, List, [], ◌∷◌, ◌++◌, drop, map, flat_map}
use Rattle.std.specs.Prelude.{Option, None, Some, option_map, option_and_then, Result, Ok, Err}
use Rattle.std.specs.List.{list_all, list_any, slice_split}
use Rattle.std.specs.Option.{is_some}
use Rattle.std.specs.Ordering.{int_eq}
use Rattle.rr_model.specs.Moment.{day_part, second_part}
use Rattle.rr_model.specs.Moment.Units.{is_whole_days}
use Rattle.rr_model.specs.Rule.Validity.{is_absent}
use Rattle.rr_model.specs.Text.Calendars.{is_comma}
use Rattle.rr_rule_parts.specs.Calendars.{calendar_scan}
use Rattle.rr_model.specs.Text.Moments.{basic}
use Rattle.rr_model.specs.Text.UsedLines.{trim}
use Rattle.rr_model.specs.declared.kind.Kind.{Kind}
use Rattle.rr_model.specs.declared.kind.Kind.TheVariants.{Days, Moments}
use Rattle.rr_model.specs.declared.refusal.Refusal.{Refusal}
use Rattle.rr_model.specs.declared.refusal.Refusal.TheVariants.{MixedKinds}
use Rattle.rr_model.specs.declared.rule.Rule.{Rule}
use Rattle.rr_model.specs.declared.rule.Series.{Series}
use Rattle.rr_model.specs.declared.stamp.Stamp.{Stamp}
use Rattle.rr_model.specs.declared.used.LineName.{LineName}
use Rattle.rr_model.specs.declared.used.LineName.TheVariants.{Exdate}
use Rattle.rr_model.specs.declared.used.Scan.{Scan}
use Rattle.rr_model.specs.declared.used.UsedLine.{UsedLine}
use Rattle.rr_seam.specs.Steps.{◌>=>◌}
use Rattle.rr_seam.specs.declared.refusal.KeyRefusal.{KeyRefusal}
use Rattle.rr_seam.specs.declared.refusal.KeyRefusal.TheVariants as refusal
use Rattle.rr_icalfile.specs.Edited.{KeyEvents, edited_by, edited_with_series, key_events, start_line}
use Rattle.rr_icalfile.specs.declared.day.Reading.{Reading}
use Rattle.rr_icalfile.specs.declared.event.Event.{Event}
use Rattle.rr_icalfile.specs.declared.event.Recurrence.{Recurrence}

-- ---- dates with a time of day

-- the day of this number, if it is a date
abbrev pub day_at : Kind → ℤ → Option ℤ
day_at Days at = Some at
day_at Moments at = None

-- the day that a text states, if it is a date, with blanks around it or none
abbrev pub stated_day : List ℕ → Option ℤ
stated_day text = option_and_then (λ (stamp : Stamp). day_at stamp.kind stamp.at) (basic (trim text))

-- a date with a time of day behind it; any other text stays
abbrev pub with_time : List ℕ → List ℕ → List ℕ
with_time time text = if is_some (stated_day text) then trim text ++ time else text

-- the time of day of a start YYYYMMDDTHHMMSS as its line states it, with its mark of UTC if it has one; nothing of a date
abbrev pub time_on : Option UsedLine → List ℕ
time_on None = []
time_on (Some line) = drop 8 line.value

-- a line with one of its values alone, which has this time of day if it is a date
abbrev pub value_line : List ℕ → UsedLine → List ℕ → UsedLine
value_line time line text = record line { value = with_time time text }

-- a used line of this name with this time of day behind its dates: an EXDATE as one line for each of its values
abbrev pub named_lines : List ℕ → LineName → UsedLine → List UsedLine
named_lines time Exdate line = map (value_line time line) (slice_split is_comma line.value)
named_lines time name line = line ∷ []

-- a used line with this time of day behind its dates
abbrev pub lines_with_time : List ℕ → UsedLine → List UsedLine
lines_with_time time line = named_lines time line.name line

-- used lines with this time of day behind the dates of EXDATE
abbrev pub scan_with_time : List ℕ → Scan → Scan
scan_with_time time scan = record scan { used = flat_map (lines_with_time time) scan.used }

-- the event of a series with this time of day behind the dates of its EXDATE
abbrev pub series_with_time : List ℕ → Event → Event
series_with_time time event = record event { scan = scan_with_time time event.scan }

-- a RECURRENCE-ID with this time of day, if it is a date
abbrev pub recurrence_with_time : List ℕ → Recurrence → Recurrence
recurrence_with_time time recurrence = record recurrence { value = with_time time recurrence.value }

-- an instance whose RECURRENCE-ID has this time of day, if it is a date
abbrev pub instance_with_time : List ℕ → Event → Event
instance_with_time time event = record event { recurrence = option_map (recurrence_with_time time) event.recurrence }

-- the time of day of the start that an event states
abbrev pub own_time : Event → List ℕ
own_time event = time_on (start_line event.scan.used)

-- the event of a series, if there is one, and its instances, whose dates have the time of day of its start
abbrev pub events_with_times : Option Event → List Event → KeyEvents
events_with_times None instances = record { series = None; instances = instances }
events_with_times (Some event) instances =
    record { series = Some (series_with_time (own_time event) event); instances = map (instance_with_time (own_time event)) instances }

-- the events of a key whose dates have the time of day of the start of their series
abbrev pub with_times : KeyEvents → KeyEvents
with_times all = events_with_times all.series all.instances

-- ---- days that name one time of day

-- a rule chooses no other time of day than that of its start
abbrev pub keeps_time : Rule → Bool
keeps_time rule = is_whole_days rule.freq && (is_absent rule.by_hour && (is_absent rule.by_minute && is_absent rule.by_second))

-- a moment lies on this day, at another time of day than the start
abbrev pub is_other_time : ℤ → ℤ → ℤ → Bool
is_other_time start day at = int_eq (day_part Moments at) day && not (second_part Moments at == second_part Moments start)

-- a day, if there is one, has an RDATE at another time of day than the start
abbrev pub is_unclear_day : Series → Option ℤ → Bool
is_unclear_day series None = false
is_unclear_day series (Some day) = list_any (is_other_time series.start day) series.plus

-- a text is a date of whose day an RDATE has another time of day than the start
abbrev pub is_unclear : Series → List ℕ → Bool
is_unclear series text = is_unclear_day series (stated_day text)

-- one of the values of a used line of this name is such a date, if it is an EXDATE
abbrev pub is_unclear_named : Series → LineName → List ℕ → Bool
is_unclear_named series Exdate text = list_any (is_unclear series) (slice_split is_comma text)
is_unclear_named series name text = false

-- one of the values of a used line is such a date, if it is an EXDATE
abbrev pub is_unclear_line : Series → UsedLine → Bool
is_unclear_line series line = is_unclear_named series line.name line.value

-- a RECURRENCE-ID, if there is one, is such a date
abbrev pub is_unclear_recurrence : Series → Option Recurrence → Bool
is_unclear_recurrence series None = false
is_unclear_recurrence series (Some recurrence) = is_unclear series recurrence.value

-- the RECURRENCE-ID of an instance is such a date
abbrev pub is_unclear_instance : Series → Event → Bool
is_unclear_instance series event = is_unclear_recurrence series event.recurrence

-- each rule and each excluded rule of a series chooses its start's time of day alone
abbrev pub have_one_time : Series → Bool
have_one_time series = list_all keeps_time series.rules && list_all keeps_time series.excluded

-- none of the dates of these used lines and instances is unclear
abbrev pub are_clear : Series → List UsedLine → List Event → Bool
are_clear series lines instances = not (list_any (is_unclear_line series) lines) && not (list_any (is_unclear_instance series) instances)

-- a series that is read, if it is read, has on the days of these dates its start's time of day alone
abbrev pub has_clear_days : Result Series Refusal → List UsedLine → List Event → Bool
has_clear_days (Ok series) lines instances = have_one_time series && are_clear series lines instances
has_clear_days (Err r) lines instances = false

-- ---- the reading

-- the series, if it is not refused
abbrev pub if_taken : Result Series KeyRefusal → Option Series
if_taken (Ok series) = Some series
if_taken (Err r) = None

-- the series of an event and its instances whose dates have this time of day, unless a day is unclear
abbrev pub series_at : Option ℤ → List ℕ → Event → List Event → Option Series
series_at offset time event instances =
    if has_clear_days (calendar_scan offset (scan_with_time time event.scan)) event.scan.used instances
    then if_taken (edited_with_series offset (series_with_time time event) (map (instance_with_time time) instances)) else None

-- the series of an event and its instances whose dates have the time of day of its start, unless a day is unclear
abbrev pub series_by_days : Option ℤ → Event → List Event → Option Series
series_by_days offset event instances = series_at offset (own_time event) event instances

-- the series with dates that are read as the occurrences of their days; otherwise the refusal stays
abbrev pub days_or_refusal : KeyRefusal → Option Series → Result Reading KeyRefusal
days_or_refusal r None = Err r
days_or_refusal r (Some series) = Ok (record { series = series; day = true })

-- a refusal is that of a date beside moments, or of a moment beside dates
abbrev pub is_mixed : KeyRefusal → Bool
is_mixed (refusal.Event (MixedKinds line) place) = true
is_mixed r = false

-- what is read of events that are refused: with a series, dates beside moments are read as the occurrences of their days
abbrev pub read_days : Option ℤ → Option Event → List Event → KeyRefusal → Result Reading KeyRefusal
read_days offset None instances r = Err r
read_days offset (Some event) instances r = if is_mixed r then days_or_refusal r (series_by_days offset event instances) else Err r

-- what is read of the events of a key whose dates are all read as RFC 5545 asks, or that are refused so
abbrev pub reading_by : Option ℤ → Bool → KeyEvents → Result Series KeyRefusal → Result Reading KeyRefusal
reading_by offset lenient all (Ok series) = Ok (record { series = series; day = false })
reading_by offset lenient all (Err r) = if lenient then read_days offset all.series all.instances r else Err r

-- What is read of the events of a key: its series with its instances as dates, and whether dates are read as the occurrences of their days.
abbrev pub reading_of : Option ℤ → Bool → KeyEvents → Result Reading KeyRefusal
reading_of offset lenient all = reading_by offset lenient all (edited_by offset all.series all.instances)

-- what is read of events, of which one may be the series
abbrev pub reading_of_events : Option ℤ → Bool → List Event → Result Reading KeyRefusal
reading_of_events offset lenient events = key_events events >=> reading_of offset lenient

-- the series of a reading
abbrev pub series_in : Result Reading KeyRefusal → Result Series KeyRefusal
series_in (Ok reading) = Ok reading.series
series_in (Err r) = Err r

-- whether a reading has dates that are read as the occurrences of their days
abbrev pub day_in : Result Reading KeyRefusal → Bool
day_in (Ok reading) = reading.day
day_in (Err r) = false
