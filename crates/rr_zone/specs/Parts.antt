-- The parts of a calendar text: its events, its time zones and what stands between these (RFC 5545, section 3.6).
use Rattle.std.specs.Prelude.{ℕ, Bool, true, false, if◌then◌else◌, List, [], ◌∷◌}
use Rattle.rr_model.specs.Text.Event.{is_event}
use Rattle.rr_model.specs.Text.UsedLines.{value_of_line}
use Rattle.rr_events.specs.Own.{value_or_empty}
use Rattle.rr_events.specs.RawLines.{RawLine, lines_of}
use Rattle.rr_events.specs.Segments.{Section}
use Rattle.rr_zone.specs.Events.{event_facts}
use Rattle.rr_zone.specs.Zones.{IsNumbered, raw_lines_in}
use Rattle.rr_zone.specs.declared.event.EventFacts.{EventFacts}
use Rattle.rr_zone.specs.declared.part.Content.{Content}
use Rattle.rr_zone.specs.declared.part.Content.TheVariants.{Event, Zone, Other}
use Rattle.rr_zone.specs.declared.part.Part.{Part}

-- what the lines of a part are, and its lines
pub record PartLines : Type 0 where
  pub content : Content
  pub lines : List RawLine

-- the name of the component that these lines begin
abbrev pub begun_name : List RawLine → List ℕ
begun_name [] = []
begun_name (raw ∷ raws) = value_or_empty (value_of_line raw.line.text)

-- what the lines of an event or of a zone are
abbrev pub component_content : List RawLine → Content
component_content raws = if is_event (begun_name raws) then Event (event_facts (lines_of raws)) else Zone

-- what a section is: an event or a zone, or neither
abbrev pub content_of : Bool → List RawLine → Content
content_of true raws = component_content raws
content_of false raws = Other

-- a section as a part of the text
abbrev pub part_of : Section → PartLines
part_of section = record { content = content_of section.is_component section.lines; lines = section.lines }

-- what an event states of its zone, at the front of what others state
abbrev pub with_event : Content → List EventFacts → List EventFacts
with_event (Event facts) events = facts ∷ events
with_event Zone events = events
with_event Other events = events

-- what the events of a text state of their zones
abbrev pub events_in : List PartLines → List EventFacts
events_in [] = []
events_in (part ∷ parts) = with_event part.content (events_in parts)

-- the lines of a zone at the front of those of others
abbrev pub with_zone : PartLines → Content → List (List RawLine) → List (List RawLine)
with_zone part (Event facts) zones = zones
with_zone part Zone zones = part.lines ∷ zones
with_zone part Other zones = zones

-- the lines of each zone of a text
abbrev pub zones_in : List PartLines → List (List RawLine)
zones_in [] = []
zones_in (part ∷ parts) = with_zone part part.content (zones_in parts)

-- ---- as pieces of the text

-- what a part of the code is
abbrev pub part_in : Part → PartLines
part_in part = record { content = part.content; lines = raw_lines_in part.piece }

-- the numbers of a part's lines fit 64 bits
abbrev pub IsNumberedPart : Part → Type 0
IsNumberedPart part = IsNumbered part.piece
