-- What the starts of two texts state of their zones (RFC 5545, sections 3.2.19, 3.3.5 and 3.6.1).
use Rattle.std.specs.Prelude.{ℕ, Bool, true, false, not, if◌then◌else◌, List, [], bytes_eq, codes, Option, None, Some, option_and_then}
use Rattle.rr_model.specs.Moment.{is_same_kind}
use Rattle.rr_model.specs.Text.Event.{is_bare_text}
use Rattle.rr_model.specs.Text.Lines.{unfolded_lines, without_mark}
use Rattle.rr_model.specs.Text.Moments.{basic}
use Rattle.rr_model.specs.Text.UsedLines.{value_of_line}
use Rattle.rr_model.specs.declared.kind.Kind.TheVariants.{Moments}
use Rattle.rr_model.specs.declared.line.Line.{Line}
use Rattle.rr_model.specs.declared.stamp.Stamp.{Stamp}
use Rattle.rr_events.specs.Own.{first_named, own_lines}
use Rattle.rr_events.specs.Parameters.{parameter_of}
use Rattle.rr_notes.specs.declared.starts.StartZone.{StartZone}
use Rattle.rr_notes.specs.declared.starts.StartZone.TheVariants.{Utc, Named, Floating}

-- the first start directly in an event, or in a text without components
abbrev pub start_among : List Line → Option Line
start_among lines = first_named (codes "DTSTART") (if is_bare_text lines then lines else own_lines [] lines)

-- local time of the zone of this name, if there is one
abbrev pub zone_named : Option (List ℕ) → StartZone
zone_named None = Floating
zone_named (Some name) = Named name

-- what a start with this text and this value states of its zone; nothing if it is a date
abbrev pub zone_by : List ℕ → Stamp → Option StartZone
zone_by text stamp =
    if not (is_same_kind stamp.kind Moments) then None
    else if stamp.utc then Some Utc
    else Some (zone_named (parameter_of (codes "TZID") text))

-- what the line of a start states of its zone
abbrev pub zone_on : Option Line → Option StartZone
zone_on None = None
zone_on (Some line) = option_and_then (zone_by line.text) (option_and_then basic (value_of_line line.text))

-- what the start of a text states of its zone
abbrev pub zone_of : List ℕ → Option StartZone
zone_of bytes = zone_on (start_among (unfolded_lines false (without_mark bytes)))

-- two starts state the same of their zones: both UTC, both neither, or the same name by its bytes
abbrev pub are_same : StartZone → StartZone → Bool
are_same Utc Utc = true
are_same (Named a) (Named b) = bytes_eq a b
are_same Floating Floating = true
are_same a b = false

-- both start with a moment, and what they state of their zones differs
abbrev pub differ : Option StartZone → Option StartZone → Bool
differ (Some a) (Some b) = not (are_same a b)
differ a b = false

-- two texts start with moments whose zones differ by what they state
abbrev pub have_two_zones : List ℕ → List ℕ → Bool
have_two_zones a b = differ (zone_of a) (zone_of b)
