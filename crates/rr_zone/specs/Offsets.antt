-- An offset from UTC as a time zone states it (RFC 5545, section 3.3.14).
use Rattle.std.specs.Prelude.{ℕ, ◌+◌, ◌*◌, ◌==◌, if◌then◌else◌, ℤ, pos, ◌-ℤ◌, ◌<ℤ◌, List, [], ◌∷◌, length, take, drop, Option, Some, None, option_and_then}
use Rattle.rr_text.specs.Offset.{two_digits, with_sign}

-- the seconds of two digits of hours and two of minutes
abbrev pub hours_and_minutes : List ℕ → Option ℕ
hours_and_minutes digits =
    option_and_then (λ h. option_and_then (λ m. Some (h * 3_600 + m * 60)) (two_digits 60 (drop 2 digits))) (two_digits 24 (take 2 digits))

-- the seconds of HHMM or HHMMSS
abbrev pub seconds_of : List ℕ → Option ℕ
seconds_of digits =
    if length digits == 4 then hours_and_minutes digits
    else (if length digits == 6 then option_and_then (λ t. option_and_then (λ s. Some (t + s)) (two_digits 60 (drop 4 digits))) (hours_and_minutes (take 4 digits))
    else None)

-- local time less UTC in seconds: a sign, hours below 24, minutes below 60, and seconds below 60 or none
abbrev pub offset_value : List ℕ → Option ℤ
offset_value [] = None
offset_value (sign ∷ digits) = option_and_then (λ s. with_sign sign s) (seconds_of digits)

-- an offset from UTC is less than a day
pub record IsBelowDay (offset : ℤ) : Type 0 where
  pub low : (pos 0 -ℤ pos 86_400) <ℤ offset
  pub high : offset <ℤ pos 86_400
