-- The length of one event by its own lines, in iCalendar (RFC 5545, sections 3.6.1, 3.8.2.2 and 3.8.2.5) and in vCalendar 1.0 alike.
use Rattle.std.specs.Prelude.{ℕ, ◌==◌, Bool, true, false, ◌&&◌, if◌then◌else◌, List, bytes_eq, codes, count_by, Option, None, Some, option_and_then}
use Rattle.rr_model.specs.Text.Moments.{basic}
use Rattle.rr_model.specs.Text.UsedLines.{is_named, value_of_line}
use Rattle.rr_model.specs.declared.line.Line.{Line}
use Rattle.rr_model.specs.declared.stamp.Stamp.{Stamp}
use Rattle.rr_events.specs.Own.{first_named, first_value}
use Rattle.rr_events.specs.Parameters.{parameter_of}
use Rattle.rr_length.specs.Duration.{duration_of}
use Rattle.rr_length.specs.Length.{span_between, unstated}
use Rattle.rr_length.specs.declared.length.Length.{Length}

-- how many lines have this name
abbrev pub count_named : List ℕ → List Line → ℕ
count_named word lines = count_by (λ (line : Line). is_named line.text word) lines

-- the date or moment that a line states, if it can be read
abbrev pub stamp_on : Line → Option Stamp
stamp_on line = option_and_then basic (value_of_line line.text)

-- the two texts are the same bytes, or neither is there
abbrev pub is_same_text : Option (List ℕ) → Option (List ℕ) → Bool
is_same_text None None = true
is_same_text None (Some b) = false
is_same_text (Some a) None = false
is_same_text (Some a) (Some b) = bytes_eq a b

-- the two lines name one zone, or neither names one
abbrev pub is_same_zone : Line → Line → Bool
is_same_zone a b = is_same_text (parameter_of (codes "TZID") a.text) (parameter_of (codes "TZID") b.text)

-- from the start on one line to the end on another, if both are local times of one zone
abbrev pub end_length : Line → Line → Option Length
end_length start end =
    if is_same_zone start end
    then option_and_then (λ (from : Stamp). option_and_then (λ (to : Stamp). span_between from to) (stamp_on end)) (stamp_on start)
    else None

-- the length by how many lines of an end and of a duration there are: neither, one end, or one duration; no length
-- otherwise
abbrev pub length_by : ℕ → ℕ → Line → Stamp → List Line → Option Length
length_by ends durations line start own =
    if (ends == 0) && (durations == 0) then Some (unstated start.kind)
    else (if (ends == 1) && (durations == 0) then option_and_then (λ (end : Line). end_length line end) (first_named (codes "DTEND") own)
    else (if (ends == 0) && (durations == 1) then duration_of (first_value (codes "DURATION") own) else None))

-- by a start that can be read
abbrev pub length_from : Line → List Line → Option Length
length_from line own =
    option_and_then (λ (start : Stamp). length_by (count_named (codes "DTEND") own) (count_named (codes "DURATION") own) line start own) (stamp_on line)

-- The length of the event of these own lines, whose start is that of the first DTSTART, if it can be told.
abbrev pub event_length : List Line → Option Length
event_length own = option_and_then (λ (line : Line). length_from line own) (first_named (codes "DTSTART") own)
