-- What an event states of itself as part of a calendar (RFC 5545, sections 3.6.1 and 3.8.4.4).
use Rattle.std.specs.Prelude.{ℕ, Bool, true, false, ◌&&◌, List, [], codes, Option, option_map}
use Rattle.std.specs.List.{filter, list_any}
use Rattle.std.specs.Option.{is_some}
use Rattle.std.specs.Str.{str_eq_ignore_ascii_case}
use Rattle.rr_model.specs.Text.Event.{no_components, scan_of}
use Rattle.rr_model.specs.Text.UsedLines.{line_kind, value_of_line}
use Rattle.rr_model.specs.declared.line.Line.{Line}
use Rattle.rr_model.specs.declared.used.LineKind.{LineKind}
use Rattle.rr_model.specs.declared.used.LineKind.TheVariants.{Begin, End, Property, Other}
use Rattle.rr_model.specs.declared.used.LineName.{LineName}
use Rattle.rr_model.specs.declared.used.LineName.TheVariants.{Rrule, Rdate}
use Rattle.rr_model.specs.declared.used.Scan.{Scan}
use Rattle.rr_model.specs.declared.used.UsedLine.{UsedLine}
use Rattle.rr_events.specs.Own.{first_named, first_value, own_lines, value_or_empty}
use Rattle.rr_events.specs.Parameters.{parameter_of}
use Rattle.rr_length.specs.Event.{event_length}
use Rattle.rr_icalfile.specs.Keys.{first_line}
use Rattle.rr_icalfile.specs.Zones.{event_zones}
use Rattle.rr_icalfile.specs.declared.event.Event.{Event}
use Rattle.rr_icalfile.specs.declared.event.Recurrence.{Recurrence}

-- what a RECURRENCE-ID line states
abbrev pub recurrence_on : Line → Recurrence
recurrence_on line = record {
  line = line.number;
  value = value_or_empty (value_of_line line.text);
  has_range = is_some (parameter_of (codes "RANGE") line.text);
}

-- the RECURRENCE-ID among the lines of an event
abbrev pub recurrence_of : List Line → Option Recurrence
recurrence_of own = option_map recurrence_on (first_named (codes "RECURRENCE-ID") own)

-- the STATUS among the lines of an event is CANCELLED
abbrev pub is_cancelled : List Line → Bool
is_cancelled own = str_eq_ignore_ascii_case (first_value (codes "STATUS") own) (codes "CANCELLED")

-- ---- the lines that are read

-- a line of this kind begins or ends a component
abbrev pub is_component_kind : LineKind → Bool
is_component_kind Begin = true
is_component_kind End = true
is_component_kind (Property name) = false
is_component_kind Other = false

-- a line begins or ends a component
abbrev pub is_component_line : Line → Bool
is_component_line line = is_component_kind (line_kind line.text)

-- an event with these own lines is an instance that is cancelled, which is not read
abbrev pub is_unread : List Line → Bool
is_unread own = is_some (recurrence_of own) && is_cancelled own

-- the lines that are read of an event: of one that is not read those that begin and end components
abbrev pub read_lines : Bool → List Line → List Line
read_lines true lines = filter is_component_line lines
read_lines false lines = lines

-- the used lines of an event, up to the first fault of its components; one that is not read has none
abbrev pub used_in : Bool → List Line → Scan
used_in is_unread lines = scan_of false 0 no_components (read_lines is_unread lines)

-- ---- the event

-- what an event states, by its first line, its used lines and its own lines
abbrev pub event_by : ℕ → Scan → List Line → Event
event_by first scan own = record {
  first = first;
  scan = scan;
  recurrence = recurrence_of own;
  is_cancelled = is_cancelled own;
  zones = event_zones (is_cancelled own) own;
  length = event_length own;
}

-- what the lines of an event state; they are numbered as in the whole text
abbrev pub event_of : List Line → Event
event_of lines = event_by (first_line lines) (used_in (is_unread (own_lines [] lines)) lines) (own_lines [] lines)

-- a used line is a rule or a date that is added
abbrev pub is_rule_or_date : LineName → Bool
is_rule_or_date Rrule = true
is_rule_or_date Rdate = true
is_rule_or_date name = false

-- an event has a rule or dates of its own
abbrev pub has_rule_or_date : Scan → Bool
has_rule_or_date scan = list_any (λ (line : UsedLine). is_rule_or_date line.name) scan.used
