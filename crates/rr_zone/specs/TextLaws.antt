-- What is known of texts in local time.
use Rattle.std.specs.Prelude.{◌≡◌, ℕ, ℤ, false, List, ◌++◌, map, All, Option, None, Some, Ok, ⊤}
use Rattle.rr_model.specs.Text.Lines.{without_mark}
use Rattle.rr_model.specs.Text.Moments.{basic}
use Rattle.rr_model.specs.Text.RuleValues.{pieces}
use Rattle.rr_model.specs.Text.Rules.{split_once}
use Rattle.rr_model.specs.Text.UsedLines.{trim}
use Rattle.rr_model.specs.declared.stamp.Stamp.{Stamp}
use Rattle.rr_events.specs.Segments.{Section, sections_of}
use Rattle.rr_ical.specs.declared.open_names.Sought.TheVariants.{EventsAndZones}
use Rattle.rr_zone.specs.Lines.{dates_line}
use Rattle.rr_zone.specs.Local.{has_zone, in_local_time}
use Rattle.rr_zone.specs.Parts.{events_in, part_of, zones_in}
use Rattle.rr_zone.specs.Values.{local_dates, local_rule}
use Rattle.rr_zone.specs.declared.clock.LocalTime.{LocalTime}
use Rattle.rr_zone.specs.declared.value.Role.{Role}

-- what is stated is no moment of UTC
abbrev pub IsNotUtc : Option Stamp → Type 0
IsNotUtc None = ⊤
IsNotUtc (Some stamp) = stamp.utc ≡ false

-- a part of a rule states no moment of UTC behind its name
abbrev pub HasNoUtc : Option (List ℕ × List ℕ) → Type 0
HasNoUtc None = ⊤
HasNoUtc (Some (name, value)) = IsNotUtc (basic (trim value))

-- A line of dates of which none is a moment of UTC stays as it is, byte by byte.
abbrev pub OtherDatesStay : Type 0
OtherDatesStay =
    (local : ℤ → LocalTime) (role : Role) (front text : List ℕ) → All (λ piece. IsNotUtc (basic (trim piece))) (pieces 44 text)
    → dates_line front text (local_dates local role (pieces 44 text)) ≡ front ++ text

-- A rule without a moment of UTC stays as it is, byte by byte.
abbrev pub OtherRulesStay : Type 0
OtherRulesStay =
    (local : ℤ → LocalTime) (text : List ℕ) → All (λ piece. HasNoUtc (split_once 61 piece)) (pieces 59 text) → local_rule local text ≡ text

-- no event of some sections has a zone
abbrev pub HasNoZone : List Section → Type 0
HasNoZone sections = has_zone (zones_in (map part_of sections)) (events_in (map part_of sections)) (map part_of sections) ≡ false

-- A text stays as it is, byte by byte, if none of its events has a zone of the text.
abbrev pub TextStays : Type 0
TextStays =
    (bytes : List ℕ) → ((sections : List Section) → sections_of EventsAndZones 1 (without_mark bytes) ≡ Ok sections → HasNoZone sections)
    → in_local_time bytes ≡ bytes
