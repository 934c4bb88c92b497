-- Lines of an event whose local times are of another zone than that of its series (RFC 5545, sections 3.2.19 and 3.3.5).
use Rattle.std.specs.Prelude.{ℕ, Bool, true, false, if◌then◌else◌, ℤ, List, [], ◌∷◌, ◌++◌, bytes_eq, codes, Option, None, Some, option_and_then, option_map}
use Rattle.rr_model.specs.Text.UsedLines.{after_colon, after_name}
use Rattle.rr_events.specs.Finding.{before}
use Rattle.rr_events.specs.Own.{value_or_empty}
use Rattle.rr_events.specs.Parameters.{parameter_of}
use Rattle.rr_events.specs.RawLines.{RawLine}
use Rattle.rr_zone.specs.Lines.{local_line, turn_of}
use Rattle.rr_zone.specs.Moments.{utc_moment}
use Rattle.rr_zone.specs.Values.{utc_value}
use Rattle.rr_zone.specs.Zones.{zone_at}
use Rattle.rr_zone.specs.declared.clock.LocalTime.{LocalTime}
use Rattle.rr_zone.specs.declared.line.Turn.{Turn}
use Rattle.rr_zone.specs.declared.line.Turn.TheVariants.{OfRule, OfDates, OfOne, Nothing}

-- the values of such a line are dates
abbrev pub has_dates : Turn → Bool
has_dates OfRule = false
has_dates (OfDates role) = true
has_dates (OfOne role) = true
has_dates Nothing = false

-- a line by its value, if it has one, with its local times in UTC
abbrev pub utc_line : (ℤ → Option ℤ) → List ℕ → Option (List ℕ) → Option (List ℕ)
utc_line moment text None = None
utc_line moment text (Some value) = option_map (λ new. before text value ++ new) (utc_value moment value)

-- a line with its local times, which are of the zone of this name, in UTC, if that zone can be read
abbrev pub line_of_zone : List (List RawLine) → List ℕ → List ℕ → Option (List ℕ)
line_of_zone zones text own =
    option_and_then (λ zone. utc_line (utc_moment zone) text (after_colon false (after_name text))) (zone_at zones own)

-- the line of a zone by its own TZID, if it has one and that is not this name
abbrev pub line_of_other : List (List RawLine) → List ℕ → List ℕ → Option (List ℕ) → Option (List ℕ)
line_of_other zones name text None = None
line_of_other zones name text (Some own) = if bytes_eq own name then None else line_of_zone zones text own

-- A line of an event with its local times in UTC, if it states dates of another zone of the text than that of this name.
abbrev pub in_utc : List (List RawLine) → List ℕ → Bool → List ℕ → Option (List ℕ)
in_utc zones name is_instance text =
    if has_dates (turn_of is_instance text) then line_of_other zones name text (parameter_of (codes "TZID") text) else None

-- the text itself if there is no other
abbrev pub or_itself : List ℕ → Option (List ℕ) → List ℕ
or_itself bytes None = bytes
or_itself bytes (Some text) = text

-- a line in local time of the zone of this name; as it is if there is none, since the series is in UTC
abbrev pub line_in : (ℤ → LocalTime) → Option (List ℕ) → Bool → List ℕ → List ℕ
line_in local None is_instance text = text
line_in local (Some name) is_instance text = local_line local name is_instance text

-- A line of an event: its local times of other zones in UTC, and then its moments of UTC in local time of the zone of this name. None is UTC.
abbrev pub event_line : (ℤ → LocalTime) → List (List RawLine) → Option (List ℕ) → Bool → List ℕ → List ℕ
event_line local zones name is_instance text = line_in local name is_instance (or_itself text (in_utc zones (value_or_empty name) is_instance text))

-- ---- what the code writes

-- what was written, if all of it could be
abbrev pub if_all : Bool → List ℕ → Option (List ℕ)
if_all true text = Some text
if_all false text = None
