-- In which zone the moments of an event are written (RFC 5545, sections 3.2.19, 3.8.2.4 and 3.8.4.4).
use Rattle.std.specs.Prelude.{ℕ, not, ◌&&◌, if◌then◌else◌, List, [], ◌∷◌, bytes_eq, codes, Option, None, Some, option_and_then}
use Rattle.std.specs.Option.{is_some}
use Rattle.rr_model.specs.Moment.{is_same_kind}
use Rattle.rr_model.specs.Rule.Validity.{is_absent}
use Rattle.rr_model.specs.Text.Moments.{basic}
use Rattle.rr_model.specs.Text.UsedLines.{value_of_line}
use Rattle.rr_model.specs.declared.kind.Kind.TheVariants.{Moments}
use Rattle.rr_model.specs.declared.line.Line.{Line}
use Rattle.rr_model.specs.declared.stamp.Stamp.{Stamp}
use Rattle.rr_events.specs.Own.{first_named, first_value, own_lines}
use Rattle.rr_events.specs.Parameters.{parameter_of}
use Rattle.rr_zone.specs.declared.event.EventFacts.{EventFacts}
use Rattle.rr_zone.specs.declared.event.Start.{Start}
use Rattle.rr_zone.specs.declared.event.Start.TheVariants.{Utc, Zoned, Unzoned}

-- local time of the zone that a TZID parameter names, if there is one
abbrev pub start_in : Option (List ℕ) → Start
start_in None = Unzoned
start_in (Some name) = Zoned name

-- what a DTSTART line states whose value is this
abbrev pub start_by : List ℕ → Option Stamp → Start
start_by text None = Unzoned
start_by text (Some stamp) =
    if is_same_kind stamp.kind Moments then (if stamp.utc then Utc else start_in (parameter_of (codes "TZID") text)) else Unzoned

-- what a DTSTART line states, if there is one
abbrev pub start_on : Option Line → Start
start_on None = Unzoned
start_on (Some line) = start_by line.text (option_and_then basic (value_of_line line.text))

-- what the own lines of an event state of its zone
abbrev pub facts_of : List Line → EventFacts
facts_of own = record {
  uid = first_value (codes "UID") own;
  start = start_on (first_named (codes "DTSTART") own);
  is_instance = is_some (first_named (codes "RECURRENCE-ID") own);
}

-- what the lines of an event state of its zone
abbrev pub event_facts : List Line → EventFacts
event_facts lines = facts_of (own_lines [] lines)

-- the first event that is a series with this UID, which is not empty
abbrev pub series_named : List ℕ → List EventFacts → Option EventFacts
series_named uid [] = None
series_named uid (event ∷ events) =
    if not event.is_instance && not (is_absent uid) && bytes_eq event.uid uid then Some event else series_named uid events

-- the start of the series, if there is one, otherwise the event's own
abbrev pub start_of_series : Option EventFacts → EventFacts → Start
start_of_series None event = event.start
start_of_series (Some series) event = series.start

-- The start in whose zone an event is written: an instance in that of its series, if this is among the events, and each other event in its own.
abbrev pub turning_start : List EventFacts → EventFacts → Start
turning_start events event = if event.is_instance then start_of_series (series_named event.uid events) event else event.start
