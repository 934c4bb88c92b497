-- The zones that events of a text need and that can't be read.
use Rattle.std.specs.Prelude.{ℕ, Bool, not, if◌then◌else◌, List, [], ◌∷◌, bytes_eq, map, Option, None, Some, option_map, Ok, Err}
use Rattle.rr_model.specs.Text.Lines.{without_mark}
use Rattle.rr_events.specs.RawLines.{RawLine, bytes_of}
use Rattle.rr_events.specs.Segments.{Sections, sections_of}
use Rattle.rr_ical.specs.declared.open_names.Sought.TheVariants.{EventsAndZones}
use Rattle.rr_zone.specs.Clocks.{local_time}
use Rattle.rr_zone.specs.Events.{turning_start}
use Rattle.rr_zone.specs.OtherZones.{event_line}
use Rattle.rr_zone.specs.Parts.{PartLines, events_in, part_of, zones_in}
use Rattle.rr_zone.specs.Rewritten.{local_lines}
use Rattle.rr_zone.specs.Zones.{ReadZone, zone_named}
use Rattle.rr_zone.specs.declared.event.EventFacts.{EventFacts}
use Rattle.rr_zone.specs.declared.event.Start.{Start}
use Rattle.rr_zone.specs.declared.event.Start.TheVariants.{Utc, Zoned, Unzoned}
use Rattle.rr_zone.specs.declared.part.Content.{Content}
use Rattle.rr_zone.specs.declared.part.Content.TheVariants.{Event, Zone, Other}
use Rattle.rr_zone.specs.declared.unread.UnreadZone.{UnreadZone}
use Rattle.rr_zone.specs.declared.zone.ZoneFault.{ZoneFault}

-- why a zone can't be read, if it can't
abbrev pub fault_by : ReadZone → Option ZoneFault
fault_by (Ok zone) = None
fault_by (Err fault) = Some fault

-- why the zone of this name can't be read, if it can't
abbrev pub fault_at : List (List RawLine) → List ℕ → Option ZoneFault
fault_at zones name = fault_by (zone_named zones name)

-- an event has a moment of UTC that a zone turns: its lines change if local time is UTC itself
abbrev pub needs_zone : Bool → List RawLine → Bool
needs_zone is_instance raws = not (bytes_eq (local_lines (event_line (local_time []) [] (Some []) is_instance) [] raws) (bytes_of raws))

-- the zone of this name, if it can't be read
abbrev pub unread_named : List (List RawLine) → List ℕ → Option UnreadZone
unread_named zones name = option_map (λ fault. record { name = name; fault = fault }) (fault_at zones name)

-- the zone of a start, if it has one that can't be read
abbrev pub unread_at : List (List RawLine) → Start → Option UnreadZone
unread_at zones Utc = None
unread_at zones (Zoned name) = unread_named zones name
unread_at zones Unzoned = None

-- the zone in which an event is written, if it can't be read
abbrev pub unread_by : List (List RawLine) → List EventFacts → EventFacts → Option UnreadZone
unread_by zones events event = unread_at zones (turning_start events event)

-- the zone that a part needs, if it is an event and its zone can't be read
abbrev pub unread_of : List (List RawLine) → List EventFacts → Content → List RawLine → Option UnreadZone
unread_of zones events (Event event) raws = if needs_zone event.is_instance raws then unread_by zones events event else None
unread_of zones events Zone raws = None
unread_of zones events Other raws = None

-- one more, if there is one
abbrev pub with_unread : Option UnreadZone → List UnreadZone → List UnreadZone
with_unread None more = more
with_unread (Some unread) more = unread ∷ more

-- those of parts, in their order
abbrev pub unread_in : List (List RawLine) → List EventFacts → List PartLines → List UnreadZone
unread_in zones events [] = []
unread_in zones events (part ∷ parts) = with_unread (unread_of zones events part.content part.lines) (unread_in zones events parts)

-- those of all parts of a text
abbrev pub unread_of_parts : List PartLines → List UnreadZone
unread_of_parts parts = unread_in (zones_in parts) (events_in parts) parts

-- those of a text by its sections; none if its components are at fault
abbrev pub unread_of_sections : Sections → List UnreadZone
unread_of_sections (Ok sections) = unread_of_parts (map part_of sections)
unread_of_sections (Err refusal) = []

-- The zones that events of a text need for their moments of UTC and that can't be read, one for each such event, in the order of the events.
unfoldable pub unread_zones : List ℕ → List UnreadZone
unread_zones bytes = unread_of_sections (sections_of EventsAndZones 1 (without_mark bytes))
