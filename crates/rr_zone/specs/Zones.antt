-- The time zones of a calendar text (RFC 5545, section 3.6.5).
use Rattle.std.specs.Prelude.{ℕ, ◌+◌, ◌<◌, ◌^◌, length, Bool, true, false, ◌&&◌, if◌then◌else◌, List, [], ◌∷◌, bytes_eq, codes, ok_or, Option, None, Some, Result, Ok, Err}
use Rattle.std.specs.List.{filter, list_all}
use Rattle.rr_model.specs.declared.line.Line.{Line}
use Rattle.rr_events.specs.Own.{first_value}
use Rattle.rr_events.specs.RawLines.{RawLine, lines_of, raw_lines_at}
use Rattle.rr_events.specs.Segments.{Section, Sections, sections_from}
use Rattle.rr_events.specs.declared.find.Piece.{Piece}
use Rattle.rr_ical.specs.declared.open_names.Sought.TheVariants.{Observances}
use Rattle.rr_zone.specs.Observances.{observance_of}
use Rattle.rr_zone.specs.declared.observance.Observance.{Observance}
use Rattle.rr_zone.specs.declared.zone.ZoneFault.{ZoneFault}
use Rattle.rr_zone.specs.declared.zone.ZoneFault.TheVariants.{Undefined, Differs, Unreadable}

abbrev pub ReadZone : Type 0
ReadZone = Result (List Observance) ZoneFault

-- ---- one VTIMEZONE

-- the number of the first of some lines
abbrev pub first_number : List Line → ℕ
first_number [] = 0
first_number (line ∷ lines) = line.number

-- the observance that a component states, or the number of its first line if it states none that is read
abbrev pub observance_on : List Line → Result Observance ZoneFault
observance_on lines = ok_or (observance_of lines) (Unreadable (first_number lines))

-- an observance in front of others, or the first fault
abbrev pub with_observance : Result Observance ZoneFault → ReadZone → ReadZone
with_observance (Err fault) others = Err fault
with_observance (Ok o) (Err fault) = Err fault
with_observance (Ok o) (Ok others) = Ok (o ∷ others)

-- the observances among sections, or the first that states none
abbrev pub observances_of : List Section → ReadZone
observances_of [] = Ok []
observances_of (section ∷ more) =
    if section.is_component then with_observance (observance_on (lines_of section.lines)) (observances_of more) else observances_of more

-- a zone has an observance at least; the number is that of its first line
abbrev pub some_observance : ℕ → ReadZone → ReadZone
some_observance number (Ok []) = Err (Unreadable number)
some_observance number (Ok (o ∷ os)) = Ok (o ∷ os)
some_observance number (Err fault) = Err fault

-- the zone of the sections of a VTIMEZONE, if its components are closed one by one
abbrev pub zone_by : ℕ → Sections → ReadZone
zone_by number (Ok sections) = some_observance number (observances_of sections)
zone_by number (Err refusal) = Err (Unreadable number)

-- the zone that the lines of a VTIMEZONE state; the number of the last line stands in a refusal alone, which is not told
abbrev pub zone_of : List RawLine → ReadZone
zone_of lines = zone_by (first_number (lines_of lines)) (sections_from Observances 0 [] [] lines)

-- ---- several VTIMEZONEs

-- two components have the same texts, line by line
abbrev pub have_same_texts : List Line → List Line → Bool
have_same_texts [] [] = true
have_same_texts [] (l ∷ ls) = false
have_same_texts (k ∷ ks) [] = false
have_same_texts (k ∷ ks) (l ∷ ls) = bytes_eq k.text l.text && have_same_texts ks ls

-- the TZID of a component is this name
abbrev pub has_name : List ℕ → List RawLine → Bool
has_name name lines = bytes_eq (first_value (codes "TZID") (lines_of lines)) name

-- all of some components have the same texts as these lines
abbrev pub are_same : List Line → List (List RawLine) → Bool
are_same first others = list_all (λ other. have_same_texts first (lines_of other)) others

-- the zone of components of one name, which all have the same texts
abbrev pub zone_of_all : List (List RawLine) → ReadZone
zone_of_all [] = Err Undefined
zone_of_all (first ∷ more) = if are_same (lines_of first) more then zone_of first else Err Differs

-- The zone of a name among the VTIMEZONEs of a text: the one of this name that can be read, or several that have the same texts.
abbrev pub zone_named : List (List RawLine) → List ℕ → ReadZone
zone_named zones name = zone_of_all (filter (has_name name) zones)

-- a zone, if it can be read
abbrev pub if_read : ReadZone → Option (List Observance)
if_read (Ok zone) = Some zone
if_read (Err fault) = None

-- the zone of this name among the zones of a text, if there is one that can be read
abbrev pub zone_at : List (List RawLine) → List ℕ → Option (List Observance)
zone_at zones name = if_read (zone_named zones name)

-- ---- by pieces of the text

-- the lines of a piece, each with its bytes
abbrev pub raw_lines_in : Piece → List RawLine
raw_lines_in piece = raw_lines_at piece.first piece.text.now

-- the numbers of its lines fit 64 bits
abbrev pub IsNumbered : Piece → Type 0
IsNumbered piece = piece.first + length piece.text.now < 2 ^ 64
