-- Lines of an event with their moments of UTC in local time (RFC 5545, sections 3.8.2.4, 3.8.4.4 and 3.8.5).
use Rattle.std.specs.Prelude.{ℕ, Bool, false, not, ◌&&◌, ◌||◌, if◌then◌else◌, ℤ, List, [], ◌∷◌, ◌++◌, bytes_eq, codes, Option, None, Some}
use Rattle.std.specs.List.{join_with_byte}
use Rattle.std.specs.Option.{is_some}
use Rattle.rr_model.specs.Text.RuleValues.{pieces}
use Rattle.rr_model.specs.Text.UsedLines.{after_colon, after_name, has_quote, is_named, name_of_line}
use Rattle.rr_events.specs.Finding.{before}
use Rattle.rr_events.specs.Parameters.{parameter_of}
use Rattle.rr_zone.specs.Values.{local_dates, local_moment, local_rule}
use Rattle.rr_zone.specs.declared.clock.LocalTime.{LocalTime}
use Rattle.rr_zone.specs.declared.line.Turn.{Turn}
use Rattle.rr_zone.specs.declared.line.Turn.TheVariants.{OfRule, OfDates, OfOne, Nothing}
use Rattle.rr_zone.specs.declared.value.Role.{Role}
use Rattle.rr_zone.specs.declared.value.Role.TheVariants.{End, Exception, Date, Identity}

-- which moments of UTC are turned in a line of an event by its name; the start of an instance is one of them, that of a series never
abbrev pub turn_of : Bool → List ℕ → Turn
turn_of is_instance text =
    if is_named text (codes "RRULE") || is_named text (codes "EXRULE") then OfRule
    else (if is_named text (codes "EXDATE") then OfDates Exception
    else (if is_named text (codes "RDATE") then OfDates Date
    else (if is_named text (codes "RECURRENCE-ID") then OfOne Identity
    else (if is_instance && is_named text (codes "DTSTART") then OfOne Date else Nothing))))

-- the front of a start that is turned into the zone of this name: it says that name, if it can (a quote can't stand in a parameter, RFC 5545, section 3.1)
abbrev pub start_front : List ℕ → List ℕ → List ℕ
start_front zone front = if has_quote zone then front else name_of_line front ++ (codes ";TZID=\"" ++ (zone ++ codes "\":"))

-- the front of another line that is turned: it is in the zone of the start, so it says none; one with a RANGE stays, since that is refused
abbrev pub dates_front : List ℕ → List ℕ
dates_front front =
    if is_some (parameter_of (codes "TZID") front) && not (is_some (parameter_of (codes "RANGE") front)) then name_of_line front ++ codes ":" else front

-- the front of a line of one date that is turned
abbrev pub one_front : List ℕ → Role → List ℕ → List ℕ
one_front zone Date front = start_front zone front
one_front zone End front = dates_front front
one_front zone Exception front = dates_front front
one_front zone Identity front = dates_front front

-- a line with a new value in place of its old one, and if that is another, with this front
abbrev pub turned_line : List ℕ → List ℕ → List ℕ → List ℕ → List ℕ
turned_line turned front value new = (if bytes_eq new value then front else turned) ++ new

-- a line of these dates in place of its value; one without any gets a name that no reader uses
abbrev pub dates_line : List ℕ → List ℕ → List (List ℕ) → List ℕ
dates_line front value [] = codes "X-EXDATE:"
dates_line front value (date ∷ dates) = turned_line (dates_front front) front value (join_with_byte 44 (date ∷ dates))

-- a line with its front and its value, by what is turned in it
abbrev pub line_by : (ℤ → LocalTime) → List ℕ → Turn → List ℕ → List ℕ → List ℕ
line_by local zone OfRule front value = front ++ local_rule local value
line_by local zone (OfDates role) front value = dates_line front value (local_dates local role (pieces 44 value))
line_by local zone (OfOne role) front value = turned_line (one_front zone role front) front value (local_moment local role value)
line_by local zone Nothing front value = front ++ value

-- a line by its value, if it has one
abbrev pub line_with : (ℤ → LocalTime) → List ℕ → Turn → List ℕ → Option (List ℕ) → List ℕ
line_with local zone turn text None = text
line_with local zone turn text (Some value) = line_by local zone turn (before text value) value

-- a line of an event with its moments of UTC in local time of the zone of this name
abbrev pub local_line : (ℤ → LocalTime) → List ℕ → Bool → List ℕ → List ℕ
local_line local zone is_instance text = line_with local zone (turn_of is_instance text) text (after_colon false (after_name text))

-- ---- what the code writes

-- a line of dates, each behind a comma
abbrev pub line_behind_commas : List ℕ → List ℕ → List ℕ → List ℕ
line_behind_commas front value [] = codes "X-EXDATE:"
line_behind_commas front value (comma ∷ dates) = turned_line (dates_front front) front value dates
