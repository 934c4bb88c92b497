-- A calendar text with the moments of each event in one zone.
use Rattle.std.specs.Prelude.{ℕ, Bool, false, not, ◌||◌, if◌then◌else◌, List, [], ◌∷◌, ◌++◌, map, codes, take, Option, None, Some, Result, Ok, Err}
use Rattle.std.specs.Option.{is_some}
use Rattle.std.specs.Str.{str_eq_ignore_ascii_case}
use Rattle.rr_model.specs.Rule.Validity.{is_absent}
use Rattle.rr_model.specs.Text.Lines.{without_mark}
use Rattle.rr_events.specs.Finding.{before}
use Rattle.rr_events.specs.RawLines.{RawLine, bytes_of}
use Rattle.rr_events.specs.Segments.{Sections, sections_of}
use Rattle.rr_ical.specs.declared.open_names.Sought.TheVariants.{EventsAndZones}
use Rattle.rr_zone.specs.Clocks.{local_time}
use Rattle.rr_zone.specs.Events.{turning_start}
use Rattle.rr_zone.specs.OtherZones.{event_line, or_itself}
use Rattle.rr_zone.specs.Parts.{PartLines, events_in, part_of, zones_in}
use Rattle.rr_zone.specs.Rewritten.{local_lines}
use Rattle.rr_zone.specs.Zones.{zone_at}
use Rattle.rr_zone.specs.declared.event.EventFacts.{EventFacts}
use Rattle.rr_zone.specs.declared.event.Start.{Start}
use Rattle.rr_zone.specs.declared.event.Start.TheVariants.{Utc, Zoned, Unzoned}
use Rattle.rr_zone.specs.declared.observance.Observance.{Observance}
use Rattle.rr_zone.specs.declared.part.Content.{Content}
use Rattle.rr_zone.specs.declared.part.Content.TheVariants.{Event, Zone, Other}

-- ---- an event

-- the bytes of the lines of an event in local time of the zone of this name, if it can be read
abbrev pub local_by_zone : List (List RawLine) → List ℕ → Option (List Observance) → Bool → List RawLine → List ℕ
local_by_zone zones name None is_instance raws = bytes_of raws
local_by_zone zones name (Some zone) is_instance raws = local_lines (event_line (local_time zone) zones (Some name) is_instance) [] raws

-- the bytes of the lines of an event that is in UTC
abbrev pub utc_lines : List (List RawLine) → Bool → List RawLine → List ℕ
utc_lines zones is_instance raws = local_lines (event_line (local_time []) zones None is_instance) [] raws

-- the bytes of the lines of an event by the start in whose zone it is written
abbrev pub local_event : List (List RawLine) → Start → Bool → List RawLine → List ℕ
local_event zones Utc is_instance raws = utc_lines zones is_instance raws
local_event zones (Zoned name) is_instance raws = local_by_zone zones name (zone_at zones name) is_instance raws
local_event zones Unzoned is_instance raws = bytes_of raws

-- an event is written in a zone of the text, or in UTC beside a zone of the text
abbrev pub is_turned : List (List RawLine) → Start → Bool
is_turned zones Utc = not (is_absent zones)
is_turned zones (Zoned name) = is_some (zone_at zones name)
is_turned zones Unzoned = false

-- ---- all parts, by the zones and the events of the text

-- a part is an event that is written so
abbrev pub is_turned_part : List (List RawLine) → List EventFacts → Content → Bool
is_turned_part zones events (Event event) = is_turned zones (turning_start events event)
is_turned_part zones events Zone = false
is_turned_part zones events Other = false

-- the bytes of a part, by what it is
abbrev pub local_content : List (List RawLine) → List EventFacts → Content → List RawLine → List ℕ
local_content zones events (Event event) raws = local_event zones (turning_start events event) event.is_instance raws
local_content zones events Zone raws = bytes_of raws
local_content zones events Other raws = bytes_of raws

-- the bytes of a part with its moments in the zone in which it is written
abbrev pub local_part : List (List RawLine) → List EventFacts → PartLines → List ℕ
local_part zones events part = local_content zones events part.content part.lines

-- the bytes of the parts in a row
abbrev pub local_parts : List (List RawLine) → List EventFacts → List PartLines → List ℕ
local_parts zones events [] = []
local_parts zones events (part ∷ parts) = local_part zones events part ++ local_parts zones events parts

-- some part is an event that has a zone of the text, or is in UTC beside one
abbrev pub has_zone : List (List RawLine) → List EventFacts → List PartLines → Bool
has_zone zones events [] = false
has_zone zones events (part ∷ parts) = is_turned_part zones events part.content || has_zone zones events parts

-- the text behind its byte order mark by its parts, if some event has a zone
abbrev pub local_of_parts : List ℕ → List PartLines → Option (List ℕ)
local_of_parts mark parts =
    if has_zone (zones_in parts) (events_in parts) parts then Some (mark ++ local_parts (zones_in parts) (events_in parts) parts) else None

-- ---- the text

-- the text behind its byte order mark by its sections; None if its components are at fault
abbrev pub local_of_sections : List ℕ → Sections → Option (List ℕ)
local_of_sections mark (Ok sections) = local_of_parts mark (map part_of sections)
local_of_sections mark (Err refusal) = None

-- the bytes begin with the name of a zone's component, in either case
abbrev pub begins_zone : List ℕ → Bool
begins_zone bytes = str_eq_ignore_ascii_case (take 9 bytes) (codes "VTIMEZONE")

-- that name stands somewhere in the bytes
abbrev pub mentions_zone : List ℕ → Bool
mentions_zone [] = false
mentions_zone (b ∷ bs) = begins_zone (b ∷ bs) || mentions_zone bs

-- The text with each moment of an event in the zone of its start: one of UTC beside a local start in local time, and one of another zone of the text in
-- that of the start, or in UTC. None if no event has a zone that the text defines in a component whose name VTIMEZONE is written in one piece somewhere,
-- or is in UTC beside one, and if the components of the text are at fault.
unfoldable pub local_text : List ℕ → Option (List ℕ)
local_text bytes =
    if mentions_zone (without_mark bytes) then local_of_sections (before bytes (without_mark bytes)) (sections_of EventsAndZones 1 (without_mark bytes))
    else None

-- The text with its moments in the zones of their starts; the text as it is, if no event has a zone of the text.
abbrev pub in_local_time : List ℕ → List ℕ
in_local_time bytes = or_itself bytes (local_text bytes)
