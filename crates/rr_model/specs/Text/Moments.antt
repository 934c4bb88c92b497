-- The texts of dates and moments: basic ones are read (RFC 5545, sections 3.3.4 and 3.3.5), extended ones printed (ISO 8601).
use Rattle.std.specs.Prelude.{ℕ, ◌+◌, ◌-◌, ◌*◌, ◌/◌, ◌%◌, ◌==◌, nat_le, nat_lt, Bool, true, false, ◌&&◌, ◌||◌, if◌then◌else◌, ℤ, pos, nat_abs, List, []}
use Rattle.std.specs.Prelude.{◌∷◌, ◌++◌, length, take, drop, replicate, slice_index, codes, Option, None, Some, option_map}
use Rattle.std.specs.Fmt.{decimal}
use Rattle.std.specs.List.{list_all}
use Rattle.rr_model.specs.Calendar.{is_date, day_number, year_of, month_of, day_of_month}
use Rattle.rr_model.specs.Text.Digits.{is_digit, digits_value}
use Rattle.rr_model.specs.Moment.{day_part, second_part, moment_at}
use Rattle.rr_model.specs.declared.kind.Kind.{Kind}
use Rattle.rr_model.specs.declared.kind.Kind.TheVariants.{Days, Moments}
use Rattle.rr_model.specs.declared.stamp.Stamp.{Stamp}

-- the text is n digits
unfoldable pub is_digits : ℕ → List ℕ → Bool
is_digits count text = (length text == count) && list_all is_digit text

-- the number that n digits write, from a place on
unfoldable pub number_at : ℕ → ℕ → List ℕ → ℕ
number_at start count text = digits_value (take count (drop start text))

-- ---- basic texts

-- the year of YYYYMMDD
abbrev pub written_year : List ℕ → ℕ
written_year text = number_at 0 4 text

-- the month of YYYYMMDD
abbrev pub written_month : List ℕ → ℕ
written_month text = number_at 4 2 text

-- the day of YYYYMMDD
abbrev pub written_day : List ℕ → ℕ
written_day text = number_at 6 2 text

-- eight digits YYYYMMDD that write a date of the years 1 to 9999
abbrev pub is_basic_date : List ℕ → Bool
is_basic_date text =
    is_digits 8 text && nat_le 1 (written_year text) && is_date (pos (written_year text)) (written_month text) (written_day text)

-- the day number of a basic date
unfoldable pub basic_date : List ℕ → Option ℤ
basic_date text =
    if is_basic_date text then Some (day_number (pos (written_year text)) (written_month text) (written_day text)) else None

-- the hour of HHMMSS
abbrev pub written_hour : List ℕ → ℕ
written_hour text = number_at 0 2 text

-- the minute of HHMMSS
abbrev pub written_minute : List ℕ → ℕ
written_minute text = number_at 2 2 text

-- the second of HHMMSS
abbrev pub written_second : List ℕ → ℕ
written_second text = number_at 4 2 text

-- six digits HHMMSS that write a time of a day
abbrev pub is_basic_time : List ℕ → Bool
is_basic_time text =
    is_digits 6 text && nat_lt (written_hour text) 24 && nat_lt (written_minute text) 60 && nat_lt (written_second text) 60

-- the second of the day of a basic time
unfoldable pub basic_time : List ℕ → Option ℕ
basic_time text =
    if is_basic_time text then Some (written_hour text * 3_600 + written_minute text * 60 + written_second text) else None

-- the letter T in either case
abbrev pub is_letter_t : ℕ → Bool
is_letter_t b = (b == 84) || (b == 116)

-- the letter Z in either case
abbrev pub is_letter_z : ℕ → Bool
is_letter_z b = (b == 90) || (b == 122)

-- whether a moment is marked as UTC: nothing stands after it, or one Z
abbrev pub utc_mark : List ℕ → Option Bool
utc_mark [] = Some false
utc_mark (b ∷ []) = if is_letter_z b then Some true else None
utc_mark (b ∷ c ∷ rest) = None

-- a date as a stamp, and a second of a day
abbrev pub date_stamp : ℤ → Stamp
date_stamp day = record { kind = Days; at = day; utc = false }

-- a moment as a stamp
abbrev pub moment_stamp : ℤ → ℕ → Bool → Stamp
moment_stamp day second utc = record { kind = Moments; at = moment_at Moments day second; utc = utc }

-- the moment of a date, a time and a mark, if all three are stated
abbrev pub moment_of : Option ℤ → Option ℕ → Option Bool → Option Stamp
moment_of (Some day) (Some second) (Some utc) = Some (moment_stamp day second utc)
moment_of day second utc = None

-- YYYYMMDDTHHMMSS, and after it a Z or nothing
unfoldable pub basic_moment : List ℕ → Option Stamp
basic_moment text =
    if is_letter_t (slice_index text 8)
    then moment_of (basic_date (take 8 text)) (basic_time (take 6 (drop 9 text))) (utc_mark (drop 15 text))
    else None

-- what a basic date or a basic moment states
unfoldable pub basic : List ℕ → Option Stamp
basic text = if length text == 8 then option_map date_stamp (basic_date text) else basic_moment text

-- ---- extended texts

-- the digits of the number, with zeros before them up to the width
abbrev pub decimal_of : ℕ → ℕ → List ℕ
decimal_of width n = replicate (width - length (decimal n)) 48 ++ decimal n

-- YYYY-MM-DD; a year past 9999 has as many digits as it needs
abbrev pub extended_date : ℕ → ℕ → ℕ → List ℕ
extended_date year month day = decimal_of 4 year ++ codes "-" ++ decimal_of 2 month ++ codes "-" ++ decimal_of 2 day

-- YYYY-MM-DD of a day that does not lie before the year 1
unfoldable pub extended_date_text : ℤ → List ℕ
extended_date_text day = extended_date (nat_abs (year_of day)) (month_of day) (day_of_month day)

-- HH:MM:SS of a second of the day
unfoldable pub extended_time_text : ℕ → List ℕ
extended_time_text second =
    decimal_of 2 (second / 3_600) ++ codes ":" ++ decimal_of 2 (second / 60 % 60) ++ codes ":" ++ decimal_of 2 (second % 60)

-- a date as 2024-02-29, a moment as 2024-02-29T09:30:00
unfoldable pub extended_text : Kind → ℤ → List ℕ
extended_text Days t = extended_date_text t
extended_text Moments t = extended_date_text (day_part Moments t) ++ codes "T" ++ extended_time_text (second_part Moments t)
