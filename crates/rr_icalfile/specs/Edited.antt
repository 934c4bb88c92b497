-- The series of a key with its instances as dates (RFC 5545, sections 3.8.4.4, 3.8.5.1 and 3.8.5.2).
use Rattle.std.specs.Prelude.{ℕ, Bool, true, false, not, ◌&&◌, if◌then◌else◌, ℤ, pos, int_lt, List, [], ◌∷◌, ◌++◌}
use Rattle.std.specs.Prelude.{Option, None, Some, unwrap_or, Result, Ok, Err}
use Rattle.std.specs.List.{list_any}
use Rattle.std.specs.Option.{is_some}
use Rattle.std.specs.Ordering.{int_eq}
use Rattle.rr_model.specs.Rising.{with_value}
use Rattle.rr_rule_parts.specs.Calendars.{calendar_scan}
use Rattle.rr_model.specs.Text.Passes.{date_beside, date_value}
use Rattle.rr_model.specs.Text.RuleValues.{◌>>=◌}
use Rattle.rr_model.specs.Text.Rules.{has_time}
use Rattle.rr_model.specs.declared.kind.Kind.{Kind}
use Rattle.rr_model.specs.declared.kind.Kind.TheVariants.{Days, Moments}
use Rattle.rr_model.specs.declared.refusal.Refusal.{Refusal}
use Rattle.rr_model.specs.declared.refusal.Refusal.TheVariants.{NoStart, UtcMoment}
use Rattle.rr_model.specs.declared.rule.Series.{Series}
use Rattle.rr_model.specs.declared.stamp.Stamp.{Stamp}
use Rattle.rr_model.specs.declared.used.LineName.{LineName}
use Rattle.rr_model.specs.declared.used.LineName.TheVariants.{Dtstart}
use Rattle.rr_model.specs.declared.used.Scan.{Scan}
use Rattle.rr_model.specs.declared.used.UsedLine.{UsedLine}
use Rattle.rr_seam.specs.Steps.{◌>=>◌, at_event, key_in_turn}
use Rattle.rr_seam.specs.declared.refusal.KeyRefusal.{KeyRefusal}
use Rattle.rr_seam.specs.declared.refusal.KeyRefusal.TheVariants as refusal
use Rattle.rr_moved.specs.Moved.{Shifts, edited_moved, edited_starts, no_shifts, with_moment, with_start_at}
use Rattle.rr_icalfile.specs.Event.{has_rule_or_date}
use Rattle.rr_icalfile.specs.declared.event.Event.{Event}
use Rattle.rr_icalfile.specs.declared.event.Recurrence.{Recurrence}

-- ---- the series and the instances

-- the series of a key, if it has one, and its instances
pub record KeyEvents : Type 0 where
  pub series : Option Event
  pub instances : List Event

-- no event is there yet
abbrev pub no_events : KeyEvents
no_events = record { series = None; instances = [] }

-- an instance with this RECURRENCE-ID may have no range, and neither a rule nor dates
abbrev pub judged_instance : Option Recurrence → Event → Result (Unit {0}) KeyRefusal
judged_instance None event = Ok tt
judged_instance (Some recurrence) event =
    if recurrence.has_range then Err (refusal.Range recurrence.line)
    else (if has_rule_or_date event.scan then Err (refusal.TwoSeries event.first) else Ok tt)

-- the events of a key with a series; a second series is refused, and one that states the first again is not taken
abbrev pub with_series : KeyEvents → Event → Result KeyEvents KeyRefusal
with_series events event =
    if is_some events.series then Err (refusal.TwoSeries event.first) else Ok (record events { series = Some event })

-- the events of a key with one event more: an instance if it has a RECURRENCE-ID, otherwise the series
abbrev pub with_event_by : KeyEvents → Event → Option Recurrence → Result KeyEvents KeyRefusal
with_event_by events event None = with_series events event
with_event_by events event (Some recurrence) =
    judged_instance (Some recurrence) event >=> λ judged. Ok (record events { instances = events.instances ++ event ∷ [] })

-- the events of a key with one event more, or its refusal
abbrev pub with_event : KeyEvents → Event → Result KeyEvents KeyRefusal
with_event events event = with_event_by events event event.recurrence

-- ---- what the instances take out and put in

-- a used line is DTSTART
abbrev pub is_start : LineName → Bool
is_start Dtstart = true
is_start name = false

-- the first DTSTART of the used lines
abbrev pub start_line : List UsedLine → Option UsedLine
start_line [] = None
start_line (line ∷ lines) = if is_start line.name then Some line else start_line lines

-- the number and the value of a used line state a date or a moment
abbrev pub stamp_on : Option UsedLine → Result Stamp Refusal
stamp_on None = Err NoStart
stamp_on (Some line) = date_value line.number line.value

-- A date or a moment of an instance beside the start. Local time beside a start in UTC is refused, as UTC beside local time is.
abbrev pub instance_beside : Option ℤ → Stamp → ℕ → Stamp → Result ℤ Refusal
instance_beside offset start line stamp =
    if has_time stamp.kind && (start.utc && not stamp.utc) then Err UtcMoment else date_beside offset start line stamp

-- a date or a moment of a RECURRENCE-ID beside the start
abbrev pub moment_of : Option ℤ → Stamp → Recurrence → Result ℤ Refusal
moment_of offset start recurrence = date_value recurrence.line recurrence.value >>= instance_beside offset start recurrence.line

-- the start on a line beside the start of a series
abbrev pub start_on : Option ℤ → Stamp → Option UsedLine → Result ℤ Refusal
start_on offset start None = Err NoStart
start_on offset start (Some line) = date_value line.number line.value >>= instance_beside offset start line.number

-- the start of an instance, which the reader takes, beside the start of its series
abbrev pub start_beside : Option ℤ → Stamp → Scan → Result ℤ Refusal
start_beside offset start scan = calendar_scan offset scan >>= λ series. start_on offset start (start_line scan.used)

-- nothing is put in, unless the components of an event are at fault
abbrev pub unless_at_fault : Option Refusal → Shifts → Result Shifts Refusal
unless_at_fault None shifts = Ok shifts
unless_at_fault (Some r) shifts = Err r

-- the start of an instance is put in; one that is cancelled has none, and of it only the components are judged
abbrev pub with_start : Option ℤ → Stamp → Shifts → Event → Result Shifts Refusal
with_start offset start shifts event =
    if event.is_cancelled then unless_at_fault event.scan.stop shifts
    else (start_beside offset start event.scan >>= λ at. Ok (with_start_at shifts at))

-- the start of one instance more is put in, or its refusal
abbrev pub with_event_start : Option ℤ → Stamp → Shifts → Event → Result Shifts KeyRefusal
with_event_start offset start shifts event = at_event event.first (with_start offset start shifts event)

-- the shifts with one instance more, by its RECURRENCE-ID, or its refusal
abbrev pub with_instance_by : Option ℤ → Stamp → Shifts → Event → Option Recurrence → Result Shifts KeyRefusal
with_instance_by offset start shifts event None = Ok shifts
with_instance_by offset start shifts event (Some recurrence) =
    at_event event.first (moment_of offset start recurrence) >=> (λ at.
    with_moment event.first shifts at >=> λ more. with_event_start offset start more event)

-- the shifts with one instance more, or its refusal
abbrev pub with_instance : Option ℤ → Stamp → Shifts → Event → Result Shifts KeyRefusal
with_instance offset start shifts event = with_instance_by offset start shifts event event.recurrence

-- what the instances of a key take out and put in beside a start
abbrev pub shifts_of : Option ℤ → Stamp → List Event → Result Shifts KeyRefusal
shifts_of offset start instances = key_in_turn (with_instance offset start) no_shifts instances

-- ---- the edited series

-- the start of a series, in UTC if its DTSTART states it so
abbrev pub start_of : Series → Stamp → Stamp
start_of series stamp = record { kind = series.kind; at = series.start; utc = stamp.utc }

-- the series that an event states, with its instances applied
abbrev pub edited_with_series : Option ℤ → Event → List Event → Result Series KeyRefusal
edited_with_series offset event instances =
    at_event event.first (calendar_scan offset event.scan) >=> (λ series.
    at_event event.first (stamp_on (start_line event.scan.used)) >=> (λ stamp.
    shifts_of offset (start_of series stamp) instances >=> (λ shifts. edited_moved event.is_cancelled event.first series shifts)))

-- the date or moment of the RECURRENCE-ID of an event
abbrev pub recurrence_stamp : Option Recurrence → Result Stamp Refusal
recurrence_stamp None = Err NoStart
recurrence_stamp (Some recurrence) = date_value recurrence.line recurrence.value

-- ---- instances alone

-- the RECURRENCE-IDs of instances as they stand: dates, local times and moments of UTC
pub record Names : Type 0 where
  pub days : List ℤ
  pub local : List ℤ
  pub utc : List ℤ

-- no RECURRENCE-ID is read yet
abbrev pub no_names : Names
no_names = record { days = []; local = []; utc = [] }

-- the names that are dates, or moments in UTC or in local time
abbrev pub names_of : Kind → Bool → Names → List ℤ
names_of Days utc names = names.days
names_of Moments false names = names.local
names_of Moments true names = names.utc

-- the names with one more, which is a date, or a moment in UTC or in local time
abbrev pub with_name_of : Kind → Bool → ℤ → Names → Names
with_name_of Days utc at names = record names { days = with_value int_lt names.days at }
with_name_of Moments false at names = record names { local = with_value int_lt names.local at }
with_name_of Moments true at names = record names { utc = with_value int_lt names.utc at }

-- a RECURRENCE-ID is among the names
abbrev pub has_name : Names → Stamp → Bool
has_name names stamp = list_any (λ t. int_eq t stamp.at) (names_of stamp.kind stamp.utc names)

-- the names with one more
abbrev pub with_stamp : Names → Stamp → Names
with_stamp names stamp = with_name_of stamp.kind stamp.utc stamp.at names

-- the names with that of one instance more, by its RECURRENCE-ID; a second instance of one name is refused
abbrev pub with_new_name : Names → Event → Stamp → Result Names KeyRefusal
with_new_name names event stamp = if has_name names stamp then Err (refusal.TwoInstances event.first) else Ok (with_stamp names stamp)

-- the names with that of one instance more, or its refusal
abbrev pub with_name : Names → Event → Result Names KeyRefusal
with_name names event = at_event event.first (recurrence_stamp event.recurrence) >=> λ stamp. with_new_name names event stamp

-- what a text states, if it is read
abbrev pub if_read : Result Stamp Refusal → Option Stamp
if_read (Ok stamp) = Some stamp
if_read (Err r) = None

-- the start that an instance states, unless it is cancelled
abbrev pub stated_start : Event → Option Stamp
stated_start event = if event.is_cancelled then None else if_read (stamp_on (start_line event.scan.used))

-- the start for several instances is the first one, in UTC if all are
abbrev pub with_stated : Option Stamp → Option Stamp → Option Stamp
with_stated start None = start
with_stated None (Some stamp) = Some stamp
with_stated (Some start) (Some stamp) = Some (record start { utc = start.utc && stamp.utc })

-- the start for these instances and those before them
abbrev pub common_start_from : Option Stamp → List Event → Option Stamp
common_start_from start [] = start
common_start_from start (event ∷ events) = common_start_from (with_stated start (stated_start event)) events

-- a start for instances that have none
abbrev pub no_start : Stamp
no_start = record { kind = Days; at = pos 0; utc = false }

-- the start beside which each of these instances starts
abbrev pub common_start : List Event → Stamp
common_start events = unwrap_or (common_start_from None events) no_start

-- the moments at which instances start
abbrev pub starts_of : Option ℤ → Stamp → List Event → Result Shifts KeyRefusal
starts_of offset start events = key_in_turn (with_event_start offset start) no_shifts events

-- the number of the line that begins the first of these instances
abbrev pub first_number : List Event → ℕ
first_number [] = 0
first_number (event ∷ events) = event.first

-- instances without a series are their starts, whatever their order; no two have the same RECURRENCE-ID
abbrev pub edited_alone : Option ℤ → List Event → Result Series KeyRefusal
edited_alone offset events =
    key_in_turn with_name no_names events >=> (λ names.
    starts_of offset (common_start events) events >=> (λ shifts.
    edited_starts (first_number events) (common_start events).kind shifts))

-- the series of a key with its instances as dates
abbrev pub edited_by : Option ℤ → Option Event → List Event → Result Series KeyRefusal
edited_by offset None instances = edited_alone offset instances
edited_by offset (Some event) instances = edited_with_series offset event instances

-- the series and the instances of a key
abbrev pub key_events : List Event → Result KeyEvents KeyRefusal
key_events events = key_in_turn with_event no_events events
