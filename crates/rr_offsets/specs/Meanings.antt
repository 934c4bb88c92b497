-- What the names of zones mean in a calendar text (RFC 5545, sections 3.2.19 and 3.6.5).
use Rattle.std.specs.Prelude.{ℕ, Bool, not, ◌&&◌, if◌then◌else◌, ℤ, List, [], map, Option, None, Some, Ok, Err}
use Rattle.rr_model.specs.Text.Event.{is_event}
use Rattle.rr_model.specs.Text.Lines.{without_mark}
use Rattle.rr_events.specs.RawLines.{RawLine}
use Rattle.rr_events.specs.Segments.{Section, Sections, sections_of}
use Rattle.rr_ical.specs.declared.open_names.Sought.TheVariants.{EventsAndZones}
use Rattle.rr_zone.specs.Parts.{begun_name, part_of, zones_in}
use Rattle.rr_zone.specs.Zones.{ReadZone, zone_named}
use Rattle.rr_zone.specs.declared.observance.Observance.{Observance}
use Rattle.rr_offsets.specs.Offsets.{offset_at}
use Rattle.rr_offsets.specs.Steady.{is_steady}

-- the offsets of a zone, if its rules go on each year
abbrev pub if_steady : List Observance → Option (ℤ → ℤ)
if_steady zone = if is_steady zone then Some (offset_at zone) else None

-- the offsets of a zone, if it can be read and its rules go on each year
abbrev pub meaning_of : ReadZone → Option (ℤ → ℤ)
meaning_of (Ok zone) = if_steady zone
meaning_of (Err fault) = None

-- What a name means among the VTIMEZONEs of a text: how far local time of the zone of that name is ahead of UTC at each moment.
abbrev pub meaning_in : List (List RawLine) → List ℕ → Option (ℤ → ℤ)
meaning_in zones name = meaning_of (zone_named zones name)

-- a section is a VTIMEZONE
abbrev pub is_zone : Section → Bool
is_zone section = section.is_component && not (is_event (begun_name section.lines))

-- the VTIMEZONEs among the sections of a text; none if its components are at fault
abbrev pub zones_of_sections : Sections → List (List RawLine)
zones_of_sections (Ok sections) = zones_in (map part_of sections)
zones_of_sections (Err refusal) = []

-- The lines of each VTIMEZONE of a text.
unfoldable pub zones_of_text : List ℕ → List (List RawLine)
zones_of_text bytes = zones_of_sections (sections_of EventsAndZones 1 (without_mark bytes))
