-- Dates and times in English.
use Rattle.std.specs.Prelude.{ℕ, ◌/◌, ◌%◌, ◌==◌, if◌then◌else◌, ℤ, nat_abs, List, [], ◌++◌, codes}
use Rattle.std.specs.Fmt.{decimal}
use Rattle.rr_model.specs.Calendar.{day_of_month, month_of, year_of}
use Rattle.rr_model.specs.Moment.{day_part, second_part}
use Rattle.rr_model.specs.Text.Moments.{decimal_of}
use Rattle.rr_model.specs.declared.kind.Kind.{Kind}
use Rattle.rr_model.specs.declared.kind.Kind.TheVariants.{Days, Moments}

-- a month, from 1 for January
unfoldable pub month_name : ℕ → List ℕ
month_name m =
    if m == 1 then codes "January" else (if m == 2 then codes "February" else (if m == 3 then codes "March"
    else (if m == 4 then codes "April" else (if m == 5 then codes "May" else (if m == 6 then codes "June"
    else (if m == 7 then codes "July" else (if m == 8 then codes "August" else (if m == 9 then codes "September"
    else (if m == 10 then codes "October" else (if m == 11 then codes "November" else codes "December"))))))))))

-- a weekday, from 0 for Monday
unfoldable pub weekday_name : ℕ → List ℕ
weekday_name d =
    if d == 0 then codes "Monday" else (if d == 1 then codes "Tuesday" else (if d == 2 then codes "Wednesday"
    else (if d == 3 then codes "Thursday" else (if d == 4 then codes "Friday" else (if d == 5 then codes "Saturday" else codes "Sunday")))))

-- a day of a year: 9 January
unfoldable pub day_and_month : ℤ → List ℕ
day_and_month day = decimal (day_of_month day) ++ codes " " ++ month_name (month_of day)

-- a date: 9 January 2024
unfoldable pub date_words : ℤ → List ℕ
date_words day = day_and_month day ++ codes " " ++ decimal (nat_abs (year_of day))

-- the seconds of a time, unless there are none
unfoldable pub seconds_words : ℕ → List ℕ
seconds_words n = if n == 0 then [] else codes ":" ++ decimal_of 2 n

-- a second of the day: 09:30, or 09:30:15
unfoldable pub time_words : ℕ → List ℕ
time_words second = decimal_of 2 (second / 3_600) ++ codes ":" ++ decimal_of 2 (second / 60 % 60) ++ seconds_words (second % 60)

-- the time of a moment; a date has none
unfoldable pub at_time : Kind → ℤ → List ℕ
at_time Days t = []
at_time Moments t = codes " at " ++ time_words (second_part Moments t)

-- a date, or a moment: 9 January 2024 at 09:30
unfoldable pub moment_words : Kind → ℤ → List ℕ
moment_words kind t = date_words (day_part kind t) ++ at_time kind t
