-- Extended dates and moments (ISO 8601), with what Microsoft Graph writes after a moment (dateTimeTimeZone, dateTime).
use Rattle.std.specs.Prelude.{ℕ, ◌==◌, nat_le, nat_lt, ◌&&◌, if◌then◌else◌, ℤ, List, [], ◌∷◌, ◌++◌, length, take, drop, slice_index, Option, None, Some}
use Rattle.std.specs.Prelude.{option_map, option_and_then}
use Rattle.std.specs.List.{prefix_len}
use Rattle.rr_model.specs.Text.Moments.{basic_date, basic_time, is_letter_t, utc_mark, date_stamp, moment_of}
use Rattle.rr_model.specs.declared.stamp.Stamp.{Stamp}

-- YYYY-MM-DD without its two `-`
abbrev pub date_digits : List ℕ → List ℕ
date_digits text = take 4 text ++ take 2 (drop 5 text) ++ drop 8 text

-- the day number of an extended date
unfoldable pub extended_date_of : List ℕ → Option ℤ
extended_date_of text =
    if (length text == 10) && (slice_index text 4 == 45) && (slice_index text 7 == 45) then basic_date (date_digits text) else None

-- HH:MM:SS without its two `:`
abbrev pub time_digits : List ℕ → List ℕ
time_digits text = take 2 text ++ take 2 (drop 3 text) ++ drop 6 text

-- the second of the day of an extended time
unfoldable pub extended_time_of : List ℕ → Option ℕ
extended_time_of text =
    if (length text == 8) && (slice_index text 2 == 58) && (slice_index text 5 == 58) then basic_time (time_digits text) else None

-- how many zeros stand at the front
abbrev pub count_zeros : List ℕ → ℕ
count_zeros text = prefix_len (λ b. b == 48) text

-- what follows a fraction of zeros, or the text if none begins
abbrev pub after_fraction : List ℕ → Option (List ℕ)
after_fraction [] = Some []
after_fraction (b ∷ bs) =
    if b == 46 then (if nat_lt 0 (count_zeros bs) then Some (drop (count_zeros bs) bs) else None) else Some (b ∷ bs)

-- YYYY-MM-DDTHH:MM:SS, and after it a fraction of zeros or none, and a Z or none
unfoldable pub extended_moment_of : List ℕ → Option Stamp
extended_moment_of text =
    if is_letter_t (slice_index text 10)
    then moment_of (extended_date_of (take 10 text)) (extended_time_of (take 8 (drop 11 text))) (option_and_then utc_mark (after_fraction (drop 19 text)))
    else None

-- what an extended date or moment states
unfoldable pub extended : List ℕ → Option Stamp
extended text = if length text == 10 then option_map date_stamp (extended_date_of text) else extended_moment_of text

-- what an extended date or moment states that has no fraction and no Z, as in a list
abbrev pub plain_extended : List ℕ → Option Stamp
plain_extended text = if nat_le (length text) 19 then extended text else None

-- an extended date alone, as Graph's ranges have it
abbrev pub extended_date_alone : List ℕ → Option ℤ
extended_date_alone text = extended_date_of text
