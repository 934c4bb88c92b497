-- In which zones the lines of an event state their moments (RFC 5545, sections 3.2.19 and 3.3.5).
use Rattle.std.specs.Prelude.{ℕ, Bool, true, false, ◌&&◌, if◌then◌else◌, List, [], ◌∷◌, ◌++◌, codes, Option, None, Some, flat_map, option_and_then, option_map, option_to_list, unwrap_or}
use Rattle.std.specs.List.{list_any, slice_split}
use Rattle.rr_model.specs.Text.Calendars.{is_comma}
use Rattle.rr_model.specs.Text.Moments.{basic}
use Rattle.rr_model.specs.Text.Rules.{has_time}
use Rattle.rr_model.specs.Text.UsedLines.{line_kind, trim, value_of_line}
use Rattle.rr_model.specs.declared.line.Line.{Line}
use Rattle.rr_model.specs.declared.stamp.Stamp.{Stamp}
use Rattle.rr_model.specs.declared.used.LineKind.{LineKind}
use Rattle.rr_model.specs.declared.used.LineKind.TheVariants.{Property}
use Rattle.rr_model.specs.declared.used.LineName.TheVariants.{Rdate, Exdate}
use Rattle.rr_events.specs.Own.{first_named, value_or_empty}
use Rattle.rr_events.specs.Parameters.{parameter_of}

-- ---- one line

-- a text states a moment of UTC
abbrev pub states_utc : List ℕ → Bool
states_utc text = unwrap_or (option_map (λ (stamp : Stamp). stamp.utc) (basic (trim text))) false

-- a text states a moment, of UTC or of local time
abbrev pub states_moment : List ℕ → Bool
states_moment text = unwrap_or (option_map (λ (stamp : Stamp). has_time stamp.kind) (basic (trim text))) false

-- the value of a line; the empty text if it has none
abbrev pub value_on : List ℕ → List ℕ
value_on text = value_or_empty (value_of_line text)

-- one of the values between commas is a moment of UTC
abbrev pub has_utc : List ℕ → Bool
has_utc value = list_any states_utc (slice_split is_comma value)

-- one of the values between commas is a moment
abbrev pub has_moment : List ℕ → Bool
has_moment value = list_any states_moment (slice_split is_comma value)

-- The zone that a line states: `Z` if one of its values is a moment of UTC, otherwise its TZID parameter, if it has one.
abbrev pub zone_on : List ℕ → Option (List ℕ)
zone_on text = if has_utc (value_on text) then Some (codes "Z") else parameter_of (codes "TZID") text

-- ---- the lines of an event

-- the zone of a start: the empty text if it states none, as local time of no zone does
abbrev pub start_zone : List Line → List ℕ
start_zone own = value_or_empty (option_and_then (λ (line : Line). zone_on line.text) (first_named (codes "DTSTART") own))

-- a line of this kind is RDATE or EXDATE
abbrev pub is_date_kind : LineKind → Bool
is_date_kind (Property Rdate) = true
is_date_kind (Property Exdate) = true
is_date_kind kind = false

-- a line is RDATE or EXDATE and states moments
abbrev pub states_dates : List ℕ → Bool
states_dates text = is_date_kind (line_kind text) && has_moment (value_on text)

-- the zone that a line of RDATE or EXDATE states; if it states none, its moments are read in the zone of the start
abbrev pub date_zones : Line → List (List ℕ)
date_zones line = if states_dates line.text then option_to_list (zone_on line.text) else []

-- the zones of a series: of its start, and of its lines of RDATE and EXDATE
abbrev pub series_zones : List Line → List (List ℕ)
series_zones own = start_zone own ∷ flat_map date_zones own

-- the zones of an instance: of its start, unless it is cancelled; and that of its RECURRENCE-ID, which without one is read in the
-- zone of the start that it names
abbrev pub instance_zones : Bool → Line → List Line → List (List ℕ)
instance_zones true recurrence own = option_to_list (zone_on recurrence.text)
instance_zones false recurrence own = option_to_list (zone_on recurrence.text) ++ start_zone own ∷ []

-- the zones of an event, by its RECURRENCE-ID
abbrev pub event_zones_by : Option Line → Bool → List Line → List (List ℕ)
event_zones_by None is_cancelled own = series_zones own
event_zones_by (Some recurrence) is_cancelled own = instance_zones is_cancelled recurrence own

-- the zones of an event with these own lines, cancelled or not
abbrev pub event_zones : Bool → List Line → List (List ℕ)
event_zones is_cancelled own = event_zones_by (first_named (codes "RECURRENCE-ID") own) is_cancelled own
