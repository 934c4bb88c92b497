-- The value of a DURATION line (RFC 5545, sections 3.3.6 and 3.8.2.5), in capitals.
use Rattle.std.specs.Prelude.{ℕ, ◌+◌, ◌*◌, ◌==◌, nat_le, nat_lt, Bool, true, false, ◌&&◌, if◌then◌else◌, List, [], ◌∷◌, length, drop, Option, None, Some}
use Rattle.rr_model.specs.Text.Digits.{digits_value, leading_digits}
use Rattle.rr_length.specs.Length.{length_of}
use Rattle.rr_length.specs.declared.length.Length.{Length}

-- what stands behind the digits at the front
abbrev pub behind_digits : List ℕ → List ℕ
behind_digits text = drop (length (leading_digits text)) text

-- the text begins with this letter
abbrev pub begins : ℕ → List ℕ → Bool
begins letter [] = false
begins letter (b ∷ bs) = b == letter

-- a number of at most 999,999,999,999 stands at the front
abbrev pub is_read : List ℕ → Bool
is_read text = nat_lt 0 (length (leading_digits text)) && nat_le (digits_value (leading_digits text)) 999_999_999_999

-- a number and the letter of its unit stand at the front
abbrev pub has_part : ℕ → List ℕ → Bool
has_part letter text = is_read text && begins letter (behind_digits text)

-- the number of a unit at the front, 0 if it does not stand there
abbrev pub part_value : ℕ → List ℕ → ℕ
part_value letter text = if has_part letter text then digits_value (leading_digits text) else 0

-- what stands behind a number of a unit at the front, all of it if that does not stand there
abbrev pub part_rest : ℕ → List ℕ → List ℕ
part_rest letter text = if has_part letter text then drop 1 (behind_digits text) else text

-- the text is empty
abbrev pub is_nothing : List ℕ → Bool
is_nothing [] = true
is_nothing (b ∷ bs) = false

-- ---- a time: hours, minutes and seconds in this order, one of them at least

-- what stands behind the hours
abbrev pub minutes_on : List ℕ → List ℕ
minutes_on text = part_rest 72 text

-- what stands behind the minutes
abbrev pub seconds_on : List ℕ → List ℕ
seconds_on text = part_rest 77 (minutes_on text)

-- the seconds of a time
abbrev pub time_seconds : List ℕ → ℕ
time_seconds text = part_value 72 text * 3_600 + part_value 77 (minutes_on text) * 60 + part_value 83 (seconds_on text)

-- a length of these days and a time
abbrev pub timed : ℕ → List ℕ → Option Length
timed days [] = None
timed days (b ∷ bs) = if is_nothing (part_rest 83 (seconds_on (b ∷ bs))) then Some (length_of days (time_seconds (b ∷ bs))) else None

-- ---- the whole value

-- what stands behind the days: nothing, or a T and a time
abbrev pub behind_days : ℕ → List ℕ → Option Length
behind_days days [] = Some (length_of days 0)
behind_days days (b ∷ text) = if b == 84 then timed days text else None

-- weeks alone
abbrev pub are_weeks : List ℕ → Bool
are_weeks text = has_part 87 text && is_nothing (part_rest 87 text)

-- what stands behind the P: weeks alone, or days, a time, or both
abbrev pub body_of : List ℕ → Option Length
body_of [] = None
body_of (b ∷ bs) =
    let text = b ∷ bs in
    if are_weeks text then Some (length_of (part_value 87 text * 7) 0) else behind_days (part_value 68 text) (part_rest 68 text)

-- a P and what stands behind it
abbrev pub unsigned_of : List ℕ → Option Length
unsigned_of [] = None
unsigned_of (b ∷ text) = if b == 80 then body_of text else None

-- The length that a value states; a plus may stand before it. With a minus it states none: no event ends before it starts.
abbrev pub duration_of : List ℕ → Option Length
duration_of [] = None
duration_of (b ∷ text) = if b == 43 then unsigned_of text else unsigned_of (b ∷ text)
