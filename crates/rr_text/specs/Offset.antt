-- A stated offset from UTC, in seconds.
use Rattle.std.specs.Prelude.{ℕ, ◌+◌, ◌*◌, ◌==◌, ◌&&◌, nat_lt, if◌then◌else◌, ℤ, pos, neg_ℤ, List, [], ◌∷◌, length, Option, Some, None, option_and_then}
use Rattle.std.specs.List.{list_all}
use Rattle.rr_model.specs.Text.Digits.{is_digit, digits_value}

-- a number of two digits, below a limit
abbrev pub two_digits : ℕ → List ℕ → Option ℕ
two_digits limit text =
    if length text == 2 && (list_all is_digit text && nat_lt (digits_value text) limit) then Some (digits_value text) else None

-- `seconds` with this sign, a plus or a minus; None for any other byte
abbrev pub with_sign : ℕ → ℕ → Option ℤ
with_sign sign seconds = if sign == 43 then Some (pos seconds) else if sign == 45 then Some (neg_ℤ (pos seconds)) else None

-- an offset from UTC: a sign with hours below 24, and minutes below 60
abbrev pub offset_of : List ℕ → List ℕ → Option ℤ
offset_of [] minutes = None
offset_of (sign ∷ hours) minutes =
    option_and_then (λ h. option_and_then (λ m. with_sign sign (h * 3600 + m * 60)) (two_digits 60 minutes)) (two_digits 24 hours)
