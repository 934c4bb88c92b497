-- Values of lines with their moments of UTC in local time (RFC 5545, sections 3.3.5, 3.3.10, 3.6.5, 3.8.4.4 and 3.8.5).
use Rattle.std.specs.Prelude.{ℕ, not, ◌&&◌, if◌then◌else◌, ℤ, pos, ◌-ℤ◌, List, [], ◌∷◌, ◌++◌, map, codes, Option, None, Some, option_and_then, option_map, ⊤}
use Rattle.std.specs.List.{join_with_byte}
use Rattle.std.specs.Str.{str_eq_ignore_ascii_case}
use Rattle.rr_model.specs.Moment.{is_same_kind}
use Rattle.rr_model.specs.Moment.Years.{IsInYears, is_in_years}
use Rattle.rr_model.specs.Text.Moments.{basic}
use Rattle.rr_model.specs.Text.RuleValues.{pieces}
use Rattle.rr_model.specs.Text.Rules.{split_once}
use Rattle.rr_model.specs.Text.UsedLines.{trim}
use Rattle.rr_model.specs.Text.Written.{basic_text}
use Rattle.rr_model.specs.declared.kind.Kind.TheVariants.{Moments}
use Rattle.rr_model.specs.declared.stamp.Stamp.{Stamp}
use Rattle.rr_zone.specs.declared.clock.LocalTime.{LocalTime}
use Rattle.rr_zone.specs.declared.clock.LocalTime.TheVariants.{Once, Again, Skipping}
use Rattle.rr_zone.specs.declared.value.Role.{Role}
use Rattle.rr_zone.specs.declared.value.Role.TheVariants.{End, Exception, Date, Identity}
use Rattle.rr_zone.specs.declared.value.Written.{Written}
use Rattle.rr_zone.specs.declared.value.Written.TheVariants.{Kept, LeftOut, At}

-- ---- one moment; `local` tells the local time of a moment of UTC

-- How a moment of UTC is written by its local time and by what it states. A local time that the clock shows twice names its first pass alone:
-- an end in the second pass is that of the last second that is shown twice, since all up to it is not after the moment; no date in the second pass
-- can be left out or named. If local times are skipped, those past the jump name moments that come before local times that were skipped; so
-- an end, a date that is left out and one that identifies an instance stay.
abbrev pub written : Role → LocalTime → Written
written role (Once at) = At at
written End (Again first) = At (first -ℤ pos 1)
written Exception (Again first) = LeftOut
written Date (Again first) = Kept
written Identity (Again first) = Kept
written End (Skipping at) = Kept
written Exception (Skipping at) = Kept
written Date (Skipping at) = At at
written Identity (Skipping at) = Kept

-- a moment outside of the years 1 to 9999 can't be written in local time
abbrev pub in_years : Written → Written
in_years Kept = Kept
in_years LeftOut = LeftOut
in_years (At at) = if is_in_years Moments at then At at else Kept

-- how a date value that states this is written: all but a moment of UTC as it is
abbrev pub written_by : (ℤ → LocalTime) → Role → Option Stamp → Written
written_by local role None = Kept
written_by local role (Some stamp) = if is_same_kind stamp.kind Moments && stamp.utc then in_years (written role (local stamp.at)) else Kept

-- how a date value is written
abbrev pub written_as : (ℤ → LocalTime) → Role → List ℕ → Written
written_as local role text = written_by local role (basic (trim text))

-- the text of a date value that is written so
abbrev pub text_as : List ℕ → Written → List ℕ
text_as text Kept = text
text_as text LeftOut = text
text_as text (At at) = basic_text Moments at

-- a date value with its moment of UTC in local time
abbrev pub local_moment : (ℤ → LocalTime) → Role → List ℕ → List ℕ
local_moment local role text = text_as text (written_as local role text)

-- ---- date values between commas

-- one more date value at the front, if it is not left out
abbrev pub with_date : List ℕ → Written → List (List ℕ) → List (List ℕ)
with_date text Kept dates = text ∷ dates
with_date text LeftOut dates = dates
with_date text (At at) dates = basic_text Moments at ∷ dates

-- the date values that are not left out, with their moments of UTC in local time
abbrev pub local_dates : (ℤ → LocalTime) → Role → List (List ℕ) → List (List ℕ)
local_dates local role [] = []
local_dates local role (text ∷ texts) = with_date text (written_as local role text) (local_dates local role texts)

-- ---- local times of another zone; `moment` tells the moment of UTC that one names

-- how a date value that states this is written in UTC: all but local time as it is; None if its moment can't be told
abbrev pub utc_written_by : (ℤ → Option ℤ) → Option Stamp → Option Written
utc_written_by moment None = Some Kept
utc_written_by moment (Some stamp) = if is_same_kind stamp.kind Moments && not stamp.utc then option_map At (moment stamp.at) else Some Kept

-- the text of a date value that is written so in UTC
abbrev pub utc_text_as : List ℕ → Written → List ℕ
utc_text_as text Kept = text
utc_text_as text LeftOut = text
utc_text_as text (At at) = basic_text Moments at ++ codes "Z"

-- a date value in UTC
abbrev pub utc_date : (ℤ → Option ℤ) → List ℕ → Option (List ℕ)
utc_date moment text = option_map (utc_text_as text) (utc_written_by moment (basic (trim text)))

-- date values in UTC, if the moments of all can be told
abbrev pub utc_dates : (ℤ → Option ℤ) → List (List ℕ) → Option (List (List ℕ))
utc_dates moment [] = Some []
utc_dates moment (text ∷ texts) = option_and_then (λ date. option_map (λ dates. date ∷ dates) (utc_dates moment texts)) (utc_date moment text)

-- the date values between commas in UTC
abbrev pub utc_value : (ℤ → Option ℤ) → List ℕ → Option (List ℕ)
utc_value moment text = option_map (join_with_byte 44) (utc_dates moment (pieces 44 text))

-- ---- a rule

-- a part of a rule: UNTIL with its moment of UTC in local time, and any other as it is
abbrev pub local_part_by : (ℤ → LocalTime) → List ℕ → Option (List ℕ × List ℕ) → List ℕ
local_part_by local text None = text
local_part_by local text (Some (name, value)) =
    if str_eq_ignore_ascii_case (trim name) (codes "UNTIL") then (name ++ codes "=") ++ local_moment local End value else text

-- a part of a rule
abbrev pub local_part : (ℤ → LocalTime) → List ℕ → List ℕ
local_part local text = local_part_by local text (split_once 61 text)

-- a rule
abbrev pub local_rule : (ℤ → LocalTime) → List ℕ → List ℕ
local_rule local text = join_with_byte 59 (map (local_part local) (pieces 59 text))

-- ---- what the code finds

-- a moment that is written is one of the years 1 to 9999
abbrev pub IsWritable : Written → Type 0
IsWritable Kept = ⊤
IsWritable LeftOut = ⊤
IsWritable (At at) = IsInYears Moments at

-- date values, each behind a comma
abbrev pub behind_commas : List (List ℕ) → List ℕ
behind_commas [] = []
behind_commas (date ∷ dates) = (44 ∷ date) ++ behind_commas dates

-- one date value behind a comma, if it is not left out
abbrev pub date_as : List ℕ → Written → List ℕ
date_as text Kept = 44 ∷ text
date_as text LeftOut = []
date_as text (At at) = 44 ∷ basic_text Moments at
