-- What the JSON of a Graph event or of a bare recurrence states, or the first refusal
-- (Microsoft Graph, event, recurrencePattern, recurrenceRange, dateTimeTimeZone).
use Rattle.std.specs.Prelude.{ℕ, nat_le, Bool, true, false, not, ◌&&◌, ◌||◌, if◌then◌else◌, bit_or, ℤ, pos, ◌+ℤ◌, List, codes, Option, None, Some}
use Rattle.std.specs.Prelude.{option_and_then, ok_or, Result, Ok, Err}
use Rattle.std.specs.Ordering.{int_eq}
use Rattle.std.specs.Str.{is_utf8, str_eq_ignore_ascii_case}
use Rattle.serde_json.specs.Data.{Data, boolean, string, Items, no_items, item}
use Rattle.serde_json.specs.Find.{as_str, as_array}
use Rattle.rr_model.specs.Moment.{day_part}
use Rattle.rr_model.specs.Text.Rules.{has_time}
use Rattle.rr_model.specs.declared.kind.Kind.{Kind}
use Rattle.rr_model.specs.declared.kind.Kind.TheVariants.{Days, Moments}
use Rattle.rr_model.specs.declared.stamp.Stamp.{Stamp}
use Rattle.rr_model.specs.Text.RuleValues.{◌>>=◌}
use Rattle.rr_model.specs.Text.Lines.{without_mark}
use Rattle.rr_model.specs.Text.ExtendedMoments.{extended, extended_date_alone}
use Rattle.rr_model.specs.Moment.Years.{is_in_years}
use Rattle.rr_model.specs.Graph.Members.{member_of, object_or, object_in, text_in, number_in, number_in_bounds, form_named, day_named, index_named, json_object}
use Rattle.rr_model.specs.Graph.Uses.{bit_of, uses_days, uses_first_day, uses_index, uses_day_of_month, uses_month, most_interval}
use Rattle.rr_model.specs.Graph.Occurrences.{first_repeat_day}
use Rattle.rr_model.specs.declared.graph.Form.{Form}
use Rattle.rr_model.specs.declared.graph.GraphEvent.{GraphEvent}
use Rattle.rr_model.specs.declared.graph.Pattern.{Pattern}
use Rattle.rr_model.specs.declared.graph.Range.{Range}
use Rattle.rr_model.specs.declared.graph.RangeEnd.{RangeEnd}
use Rattle.rr_model.specs.declared.graph.RangeEnd.TheVariants.{NoEnd, EndDate, Numbered}
use Rattle.rr_model.specs.declared.graph.Repeat.{Repeat}
use Rattle.rr_model.specs.declared.graph.Repeat.TheVariants as repeat
use Rattle.rr_model.specs.declared.refusal.Member.{Member}
use Rattle.rr_model.specs.declared.refusal.Member.TheVariants as of
use Rattle.rr_model.specs.declared.refusal.Refusal.{Refusal}
use Rattle.rr_model.specs.declared.refusal.Refusal.TheVariants.{NotText, NoStart, BadMember, StartDiffers, NoOccurrence, IntervalTooLarge}

-- ---- the pattern

-- a member that is not used keeps this value, whatever it holds
abbrev pub if_used : {X : Type 0} → Bool → X → Result X Refusal → Result X Refusal
if_used true value read = read
if_used false value read = Ok value

-- the type of a pattern
unfoldable pub form_in : Data → Result Form Refusal
form_in pattern = ok_or (option_and_then form_named (text_in (codes "type") pattern)) (BadMember of.PatternType)

-- an interval from 1 on, within what the type takes
abbrev pub interval_within : Form → Option ℕ → Result ℕ Refusal
interval_within form None = Err (BadMember of.Interval)
interval_within form (Some n) = if nat_le n 0 then Err (BadMember of.Interval) else (if nat_le n (most_interval form) then Ok n else Err IntervalTooLarge)

-- the interval of a pattern
unfoldable pub interval_in : Form → Data → Result ℕ Refusal
interval_in form pattern = interval_within form (number_in (codes "interval") pattern)

-- the sum of the days of these names and those before; a wrong element spoils the list
abbrev pub days_after : ℕ → Items → Option ℕ
days_after days no_items = Some days
days_after days (item name names) = option_and_then (λ day. days_after (bit_or days (bit_of day)) names) (option_and_then day_named (as_str name))

-- the days of a list of names, which is not empty; None if it is empty or a name is unknown
abbrev pub days_of_names : Items → Option ℕ
days_of_names no_items = None
days_of_names (item name names) = days_after 0 (item name names)

-- the sum of the days of daysOfWeek
unfoldable pub days_in : Data → Result ℕ Refusal
days_in pattern = ok_or (option_and_then days_of_names (option_and_then as_array (member_of (codes "daysOfWeek") pattern))) (BadMember of.DaysOfWeek)

-- the value that a name states, and another value if the member is missing
abbrev pub named_or : {X : Type 0} → Member → (List ℕ → Option X) → X → Option Data → Result X Refusal
named_or member names missing None = Ok missing
named_or member names missing (Some value) = ok_or (option_and_then names (as_str value)) (BadMember member)

-- firstDayOfWeek, Sunday if it is missing
unfoldable pub first_day_in : Data → Result ℕ Refusal
first_day_in pattern = named_or of.FirstDayOfWeek day_named 6 (member_of (codes "firstDayOfWeek") pattern)

-- index, the first if it is missing
unfoldable pub index_in : Data → Result ℤ Refusal
index_in pattern = named_or of.Index index_named (pos 1) (member_of (codes "index") pattern)

-- what a pattern states, its members in the order of judgement
unfoldable pub pattern_of : Data → Result Pattern Refusal
pattern_of pattern = do
  form ← form_in pattern
  interval ← interval_in form pattern
  days ← if_used (uses_days form) 0 (days_in pattern)
  first_day ← if_used (uses_first_day form) 6 (first_day_in pattern)
  index ← if_used (uses_index form) (pos 1) (index_in pattern)
  day_of_month ← if_used (uses_day_of_month form) 0 (number_in_bounds of.DayOfMonth 1 31 (number_in (codes "dayOfMonth") pattern))
  month ← if_used (uses_month form) 0 (number_in_bounds of.Month 1 12 (number_in (codes "month") pattern))
  Ok (record { form = form; interval = interval; day_of_month = day_of_month; month = month; days = days; first_day = first_day; index = index })

-- ---- the range

-- how a range ends
pub data EndType : Type 0 where
  no_end : EndType
  end_date : EndType
  numbered : EndType

-- how a range ends by its name
unfoldable pub end_type_named : List ℕ → Option EndType
end_type_named text =
    if str_eq_ignore_ascii_case text (codes "noEnd") then Some no_end
    else (if str_eq_ignore_ascii_case text (codes "endDate") then Some end_date
    else (if str_eq_ignore_ascii_case text (codes "numbered") then Some numbered else None))

-- the date that a member is
abbrev pub date_in : Member → List ℕ → Data → Result ℤ Refusal
date_in member name range = ok_or (option_and_then extended_date_alone (text_in name range)) (BadMember member)

-- the end of a range by its type
abbrev pub end_in : EndType → Data → Result RangeEnd Refusal
end_in no_end range = Ok NoEnd
end_in end_date range = date_in of.EndDate (codes "endDate") range >>= λ day. Ok (EndDate day)
end_in numbered range = number_in_bounds of.NumberOfOccurrences 1 18_446_744_073_709_551_615 (number_in (codes "numberOfOccurrences") range) >>= λ n. Ok (Numbered n)

-- what a range states
unfoldable pub range_of : Data → Result Range Refusal
range_of range = do
  type ← ok_or (option_and_then end_type_named (text_in (codes "type") range)) (BadMember of.RangeType)
  start_day ← date_in of.StartDate (codes "startDate") range
  end ← end_in type range
  Ok (record { start_day = start_day; end = end })

-- ---- a pattern and a range

-- a pattern within a range
pub record Recurrence : Type 0 where
  pub pattern : Pattern
  pub range : Range

-- what a recurrence states
unfoldable pub recurrence_of : Data → Result Recurrence Refusal
recurrence_of value = do
  pattern_object ← object_in of.Pattern (codes "pattern") value
  range_object ← object_in of.Range (codes "range") value
  pattern ← pattern_of pattern_object
  range ← range_of range_object
  Ok (record { pattern = pattern; range = range })

-- the recurrence has an occurrence in the years 1 to 9999
abbrev pub with_occurrence : Recurrence → Option ℤ → Result Repeat Refusal
with_occurrence recurrence None = Err NoOccurrence
with_occurrence recurrence (Some day) = Ok (repeat.Pattern recurrence.pattern recurrence.range)

-- a recurrence with an occurrence in the years 1 to 9999
abbrev pub repeat_with_occurrence : Recurrence → Result Repeat Refusal
repeat_with_occurrence recurrence = with_occurrence recurrence (first_repeat_day recurrence.pattern recurrence.range)

-- ---- the start of an event

-- only true is all day while the offset is applied
abbrev pub is_true : Option Data → Bool
is_true None = false
is_true (Some (boolean b)) = b
is_true (Some other) = false

-- the event is all day
abbrev pub is_all_day : Data → Bool
is_all_day event = is_true (member_of (codes "isAllDay") event)

-- the zone of the start is named UTC
abbrev pub is_named_utc : Option (List ℕ) → Bool
is_named_utc None = false
is_named_utc (Some zone) = str_eq_ignore_ascii_case zone (codes "UTC")

-- the moment turned by a stated offset, if it is one of UTC
abbrev pub turned_start : Bool → Option ℤ → ℤ → Option ℤ
turned_start is_utc None at = Some at
turned_start is_utc (Some offset) at = if is_utc then (if is_in_years Moments (at +ℤ offset) then Some (at +ℤ offset) else None) else Some at

-- a moment of Graph, and no date
abbrev pub graph_moment : List ℕ → Option Stamp
graph_moment text = option_and_then (λ stamp. if has_time stamp.kind then Some stamp else None) (extended text)

-- the start's moment; in an all-day event no offset is applied
unfoldable pub start_moment : Option ℤ → Bool → Data → Result ℤ Refusal
start_moment offset all_day start =
    ok_or (option_and_then (λ stamp. turned_start (not all_day && (stamp.utc || is_named_utc (text_in (codes "timeZone") start))) offset stamp.at)
    (option_and_then graph_moment (text_in (codes "dateTime") start))) (BadMember of.DateTime)

-- a member that is present is of its type
abbrev pub is_text_or_missing : Option Data → Bool
is_text_or_missing None = true
is_text_or_missing (Some (string s)) = true
is_text_or_missing (Some other) = false

-- the member is true, false or missing
abbrev pub is_flag_or_missing : Option Data → Bool
is_flag_or_missing None = true
is_flag_or_missing (Some (boolean b)) = true
is_flag_or_missing (Some other) = false

-- a condition that has to hold, or the refusal
abbrev pub holds_or : Bool → Refusal → Result (Unit {0}) Refusal
holds_or true refusal = Ok tt
holds_or false refusal = Err refusal

-- ---- the event

-- the kind and the start of an event: of an all-day event the date of its moment
abbrev pub event_start : Bool → ℤ → Kind × ℤ
event_start true at = (Days, day_part Moments at)
event_start false at = (Moments, at)

-- the range begins on the start's day
abbrev pub repeat_from : ℤ → Recurrence → Result Repeat Refusal
repeat_from day recurrence = if int_eq recurrence.range.start_day day then repeat_with_occurrence recurrence else Err StartDiffers

-- a missing recurrence is the start alone
abbrev pub repeat_of : ℤ → Option Data → Result Repeat Refusal
repeat_of day None = Ok repeat.Once
repeat_of day (Some value) = object_or (BadMember of.Recurrence) value >>= λ found. recurrence_of found >>= repeat_from day

-- what an event states, its members in the order of judgement
unfoldable pub event_of : Option ℤ → Data → Result GraphEvent Refusal
event_of offset event = do
  start_member ← ok_or (member_of (codes "start") event) NoStart
  start ← object_or (BadMember of.Start) start_member
  at ← start_moment offset (is_all_day event) start
  zone_judged ← holds_or (is_text_or_missing (member_of (codes "timeZone") start)) (BadMember of.TimeZone)
  flag_judged ← holds_or (is_flag_or_missing (member_of (codes "isAllDay") event)) (BadMember of.IsAllDay)
  repeat ← repeat_of (day_part Moments at) (member_of (codes "recurrence") event)
  Ok (record { kind = (event_start (is_all_day event) at).0; start = (event_start (is_all_day event) at).1; repeat = repeat })

-- a bare recurrence is a series of dates from its startDate
unfoldable pub bare_of : Data → Result GraphEvent Refusal
bare_of value = do
  recurrence ← recurrence_of value
  repeat ← repeat_with_occurrence recurrence
  Ok (record { kind = Days; start = recurrence.range.start_day; repeat = repeat })

-- an object with a pattern is a bare recurrence
abbrev pub by_pattern : Option ℤ → Option Data → Data → Result GraphEvent Refusal
by_pattern offset None value = event_of offset value
by_pattern offset (Some pattern) value = bare_of value

-- what a JSON text states: a bare recurrence if it has a pattern, and otherwise an event
unfoldable pub graph_text : Option ℤ → List ℕ → Result GraphEvent Refusal
graph_text offset text = json_object (without_mark text) >>= λ value. by_pattern offset (member_of (codes "pattern") value) value

-- the event that the bytes state, which have to be UTF-8, beside a stated offset of local time from UTC in seconds
unfoldable pub reads_graph : Option ℤ → List ℕ → Result GraphEvent Refusal
reads_graph offset bytes = if is_utf8 bytes then graph_text offset bytes else Err NotText
