-- How long the occurrences of a series are (Microsoft Graph, event: start, end, isAllDay and exceptionOccurrences; dateTimeTimeZone).
use Rattle.std.specs.Prelude.{ℕ, Bool, true, false, if◌then◌else◌, List, [], ◌∷◌, bytes_eq, codes, Option, None, Some, option_and_then, Result, Ok}
use Rattle.serde_json.specs.Data.{Data}
use Rattle.serde_json.specs.Find.{as_str}
use Rattle.rr_model.specs.Graph.Members.{member_of, text_in}
use Rattle.rr_model.specs.Graph.Reading.{graph_moment, is_all_day}
use Rattle.rr_model.specs.Moment.{day_part}
use Rattle.rr_model.specs.declared.graph.GraphEvent.{GraphEvent}
use Rattle.rr_model.specs.declared.kind.Kind.TheVariants.{Days, Moments}
use Rattle.rr_model.specs.declared.refusal.Refusal.{Refusal}
use Rattle.rr_model.specs.declared.stamp.Stamp.{Stamp}
use Rattle.rr_length.specs.Length.{span_between}
use Rattle.rr_length.specs.Lengths.{Lengths}
use Rattle.rr_length.specs.declared.length.Length.{Length}
use Rattle.rr_length.specs.declared.lengths.Dated.{Dated}
use Rattle.rr_graphfile.specs.Items.{array_in, elements_or_none, is_cancelled, read_event, repeats}
use Rattle.rr_graphfile.specs.Turning.{Turning, start_offset}

-- ---- one event (Microsoft Graph, event: start, end, isAllDay)

-- the two are one text, byte by byte
abbrev pub is_same_text : Option (List ℕ) → Option (List ℕ) → Bool
is_same_text (Some a) (Some b) = bytes_eq a b
is_same_text a b = false

-- the two are one zone: neither is stated, or both are one text
abbrev pub is_same_zone : Option Data → Option Data → Bool
is_same_zone None None = true
is_same_zone (Some a) (Some b) = is_same_text (as_str a) (as_str b)
is_same_zone a b = false

-- the moment that a start or an end states
abbrev pub moment_of : Data → Option Stamp
moment_of value = option_and_then graph_moment (text_in (codes "dateTime") value)

-- a moment as it stands; of an event that is all day its date
abbrev pub stamp_by : Bool → Stamp → Stamp
stamp_by true stamp = record { kind = Days; at = day_part Moments stamp.at; utc = stamp.utc }
stamp_by false stamp = stamp

-- from one moment to another: of an event that is all day in days, otherwise in seconds
abbrev pub span_by : Bool → Option Stamp → Option Stamp → Option Length
span_by all_day (Some start) (Some end) = span_between (stamp_by all_day start) (stamp_by all_day end)
span_by all_day start end = None

-- from a start to an end, which are of one zone
abbrev pub length_between : Bool → Data → Data → Option Length
length_between all_day start end =
    if is_same_zone (member_of (codes "timeZone") start) (member_of (codes "timeZone") end) then span_by all_day (moment_of start) (moment_of end)
    else None

-- from a start to an end, if both are there
abbrev pub length_by : Bool → Option Data → Option Data → Option Length
length_by all_day (Some start) (Some end) = length_between all_day start end
length_by all_day start end = None

-- The length of an event, from its start to its end as both stand in the JSON. There is none if one of them is missing or has no moment, if
-- they are of two zones, and if the end comes before the start.
abbrev pub event_length : Data → Option Length
event_length event = length_by (is_all_day event) (member_of (codes "start") event) (member_of (codes "end") event)

-- ---- the moved instances that a series lists (Microsoft Graph, event: exceptionOccurrences)

-- a length at the start of an event
abbrev pub dated_by : Option Length → Result GraphEvent Refusal → Option Dated
dated_by (Some length) (Ok read) = Some (record { at = read.start; length = length })
dated_by length read = None

-- the length of an instance, at its start among the occurrences of its series, which is turned as theirs
abbrev pub dated_of : Turning → Data → Option Dated
dated_of turning event = dated_by (event_length event) (read_event (start_offset turning event) event)

-- one length more, if all can be told
abbrev pub with_dated : Option Dated → Option (List Dated) → Option (List Dated)
with_dated (Some d) (Some ds) = Some (d ∷ ds)
with_dated d ds = None

-- the lengths of instances that are not cancelled, if all can be told
abbrev pub all_dated : Turning → List Data → Option (List Dated)
all_dated turning [] = Some []
all_dated turning (d ∷ ds) = if is_cancelled d then all_dated turning ds else with_dated (dated_of turning d) (all_dated turning ds)

-- the moved instances that an event lists, which only a series has
abbrev pub exceptions_of : Data → List Data
exceptions_of event = if repeats event then elements_or_none (array_in (codes "exceptionOccurrences") event) else []

-- ---- the series

-- the usual length and those of instances, if all can be told
abbrev pub lengths_by : Option Length → Option (List Dated) → Option Lengths
lengths_by (Some usual) (Some dated) = Some (record { usual = usual; dated = dated })
lengths_by usual dated = None

-- The lengths of the occurrences of a series, if all can be told: usually its own, and of each instance that is moved and not cancelled that of
-- the instance.
abbrev pub lengths_of : Turning → Data → Option Lengths
lengths_of turning event = lengths_by (event_length event) (all_dated turning (exceptions_of event))
