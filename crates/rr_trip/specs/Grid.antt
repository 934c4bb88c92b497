-- The days of a month as they are painted.
use Rattle.std.specs.Prelude.{◌≡◌, ℕ, zero, suc, ◌+◌, ◌-◌, ◌/◌, ◌%◌, ◌==◌, nat_lt, Bool, true, false, ◌&&◌, ◌||◌, if◌then◌else◌, ℤ, pos, ◌+ℤ◌, ◌-ℤ◌, ◌≤ℤ◌, nat_abs, List, [], ◌∷◌, ◌++◌, length, take, codes, bytes_eq}
use Rattle.std.specs.Fmt.{decimal}
use Rattle.rr_model.specs.Bounds.{earliest_day, earliest_taken, latest_day}
use Rattle.rr_model.specs.Calendar.{day_of_month, days_in_month, month_of, weekday_of, year_of}
use Rattle.rr_model.specs.Moment.{is_same_kind}
use Rattle.rr_model.specs.Sets.Sketch.{times_on}
use Rattle.rr_model.specs.Text.Moments.{decimal_of}
use Rattle.rr_model.specs.declared.kind.Kind.{Kind}
use Rattle.rr_model.specs.declared.kind.Kind.TheVariants.{Days, Moments}
use Rattle.rr_model.specs.declared.sketch.Sketch.{Sketch}

-- ---- signs

-- the sign of a day by its times in A and in B: = both, x both at other times, A or B one alone, . none
abbrev pub sign_of : Bool → List ℕ → List ℕ → ℕ
sign_of one_kind [] [] = 46
sign_of one_kind (x ∷ xs) [] = 65
sign_of one_kind [] (y ∷ ys) = 66
sign_of one_kind (x ∷ xs) (y ∷ ys) = if one_kind && bytes_eq (x ∷ xs) (y ∷ ys) then 61 else 120

-- the sign that tells in which of two sets a day is occupied, and whether with the same seconds
abbrev pub day_sign : Sketch → Sketch → ℤ → ℕ
day_sign a b day = sign_of (is_same_kind a.kind b.kind) (times_on a day) (times_on b day)

-- a sign marks a difference: x, A or B
abbrev pub is_mark : ℕ → Bool
is_mark sign = sign == 120 || (sign == 65 || sign == 66)

-- one of n days in a row is marked
abbrev pub has_mark : Sketch → Sketch → ℤ → ℕ → Bool
has_mark a b first zero = false
has_mark a b first (suc n) = has_mark a b first n || is_mark (day_sign a b (first +ℤ pos n))

-- ---- cells

-- the number of a day of a month in two columns
abbrev pub two_columns : ℕ → List ℕ
two_columns n = (if nat_lt n 10 then 32 else 48 + n / 10) ∷ (48 + n % 10) ∷ []

-- the end of a row, before a Monday
abbrev pub row_text : ℕ → List ℕ
row_text weekday = if weekday == 0 then codes "\n" else []

-- the cell of a day in the picture, its number and its sign, with a new row before a Monday
abbrev pub cell_text : Sketch → Sketch → ℤ → List ℕ
cell_text a b day = row_text (weekday_of day) ++ codes " " ++ two_columns (day_of_month day) ++ day_sign a b day ∷ []

-- the cells of n days in a row
abbrev pub cells_text : Sketch → Sketch → ℤ → ℕ → List ℕ
cells_text a b first zero = []
cells_text a b first (suc n) = cells_text a b first n ++ cell_text a b (first +ℤ pos n)

-- a day whose month and the one after it lie within what a sequence of days takes
abbrev pub IsPainted : ℤ → Type 0
IsPainted day = (earliest_taken ≤ℤ day) × (day ≤ℤ (latest_day +ℤ pos 700))

-- ---- months

-- how many days the month of a day has
unfoldable pub month_length : ℤ → ℕ
month_length day = days_in_month (year_of day) (month_of day)

-- the first day of the month of a day
abbrev pub first_of_month : ℤ → ℤ
first_of_month day = day -ℤ pos (day_of_month day - 1)

-- the first day of the month after the one that begins on a day
abbrev pub month_after : ℤ → ℤ
month_after first = first +ℤ pos (month_length first)

-- YYYY-MM of a day that does not lie before the year 1
abbrev pub month_name : ℤ → List ℕ
month_name day = decimal_of 4 (nat_abs (year_of day)) ++ codes "-" ++ decimal_of 2 (month_of day)

-- the place of n cells without a day
abbrev pub blank_cells : ℕ → List ℕ
blank_cells zero = []
blank_cells (suc n) = blank_cells n ++ codes "    "

-- a new row with the cells before the first day of a month, by its weekday; before a Monday the row begins with the day itself
abbrev pub first_row : ℕ → List ℕ
first_row weekday = if weekday == 0 then [] else codes "\n" ++ blank_cells weekday

-- the head of a month that begins on a day: its name, the names of the weekdays, and what stands before its first day
abbrev pub head_text : ℤ → List ℕ
head_text first = codes "\n" ++ month_name first ++ codes "\n  Mo  Tu  We  Th  Fr  Sa  Su" ++ first_row (weekday_of first)

-- the month that begins on a day
abbrev pub month_text : Sketch → Sketch → ℤ → List ℕ
month_text a b first = head_text first ++ cells_text a b first (month_length first) ++ codes "\n"

-- a month that begins on a day is painted: one of its days is marked
abbrev pub has_month : Sketch → Sketch → ℤ → Bool
has_month a b first = has_mark a b first (month_length first)

-- a month if it is painted
abbrev pub marked_text : Sketch → Sketch → ℤ → List ℕ
marked_text a b first = if has_month a b first then month_text a b first else []

-- those of three months that are painted, from the one that begins on a day on
abbrev pub months_text : Sketch → Sketch → ℤ → List ℕ
months_text a b first =
    marked_text a b first ++ marked_text a b (month_after first) ++ marked_text a b (month_after (month_after first))

-- a day from which three months are painted
abbrev pub HasMonthsAfter : ℤ → Type 0
HasMonthsAfter first = (earliest_taken ≤ℤ first) × (first ≤ℤ latest_day)

-- ---- times

-- HH:MM:SS of a second of the day, behind a blank
abbrev pub time_text : ℕ → List ℕ
time_text second =
    codes " " ++ decimal_of 2 (second / 3_600) ++ codes ":" ++ decimal_of 2 (second / 60 % 60) ++ codes ":" ++ decimal_of 2 (second % 60)

-- times one after the other
abbrev pub time_list_text : List ℕ → List ℕ
time_list_text [] = []
time_list_text (second ∷ times) = time_text second ++ time_list_text times

-- how many times are left out behind the first 8
abbrev pub more_text : ℕ → List ℕ
more_text count = if nat_lt 8 count then codes " and " ++ decimal (count - 8) ++ codes " more" else []

-- the times of a day, the first 8 of them
abbrev pub times_text : List ℕ → List ℕ
times_text times = time_list_text (take 8 times) ++ more_text (length times)

-- these times, or others if there are none
abbrev pub times_or : List ℕ → List ℕ → List ℕ
times_or [] more = more
times_or (second ∷ times) more = second ∷ times

-- the times of a day, those of A if it has some
abbrev pub times_of_day : Sketch → Sketch → ℤ → List ℕ
times_of_day a b day = times_or (times_on a day) (times_on b day)

-- the times of the first day with some among n days in a row
unfoldable pub usual_times : Sketch → Sketch → ℤ → ℕ → List ℕ
usual_times a b first zero = []
usual_times a b first (suc n) = times_or (usual_times a b first n) (times_of_day a b (first +ℤ pos n))

-- a line with the usual times; none if both sets are dates
abbrev pub usual_text : Kind → Kind → List ℕ → List ℕ
usual_text Days Days usual = []
usual_text Days Moments usual = codes "usually" ++ times_text usual ++ codes "\n"
usual_text Moments other usual = codes "usually" ++ times_text usual ++ codes "\n"

-- ---- days with other times

-- a day of this kind has no line of its own: it has no times, is a date, or has the usual times
abbrev pub is_usual : Kind → List ℕ → List ℕ → Bool
is_usual kind [] usual = true
is_usual Days (second ∷ times) usual = true
is_usual Moments (second ∷ times) usual = bytes_eq (second ∷ times) usual

-- the line of a day with its times in one set
abbrev pub day_text : List ℕ → ℤ → List ℕ → List ℕ
day_text name day times = month_name day ++ codes "-" ++ decimal_of 2 (day_of_month day) ++ codes " " ++ name ++ times_text times ++ codes "\n"

-- the line of a day in one set, if its times are others than the usual ones
abbrev pub unusual_text : List ℕ → List ℕ → Sketch → ℤ → List ℕ
unusual_text name usual days day = if is_usual days.kind (times_on days day) usual then [] else day_text name day (times_on days day)

-- the lines of n days in a row, in A and in B
abbrev pub legend_text : List ℕ → Sketch → Sketch → ℤ → ℕ → List ℕ
legend_text usual a b first zero = []
legend_text usual a b first (suc n) =
    legend_text usual a b first n ++ unusual_text (codes "A") usual a (first +ℤ pos n) ++ unusual_text (codes "B") usual b (first +ℤ pos n)

-- the lines of a month that is painted
abbrev pub month_legend : List ℕ → Sketch → Sketch → ℤ → List ℕ
month_legend usual a b first = if has_month a b first then legend_text usual a b first (month_length first) else []

-- the lines of the three months, as far as they are painted
abbrev pub months_legend : List ℕ → Sketch → Sketch → ℤ → List ℕ
months_legend usual a b first =
    month_legend usual a b first ++ month_legend usual a b (month_after first) ++ month_legend usual a b (month_after (month_after first))

-- the usual times, and the days of the three months with others
abbrev pub day_times_text : List ℕ → Sketch → Sketch → ℤ → List ℕ
day_times_text usual a b first = usual_text a.kind b.kind usual ++ months_legend usual a b first

-- what stands below the months: what the signs say, the usual times, and the days with others
abbrev pub notes_text : List ℕ → Sketch → Sketch → ℤ → List ℕ
notes_text usual a b first =
    codes "\n= both, x both at other times, A or B one alone, . none\n" ++ day_times_text usual a b first

-- ---- the picture

-- a day whose month is painted, and the two after it
abbrev pub HasPicture : ℤ → Type 0
HasPicture day = (earliest_day ≤ℤ day) × (day ≤ℤ latest_day)

-- The picture from a month on: the usual times are those of the first of 92 days, as many as three months can have, that has some.
abbrev pub picture_text : Sketch → Sketch → ℤ → List ℕ
picture_text a b first = months_text a b first ++ notes_text (usual_times a b first 92) a b first

-- the text paints the month of a day and the two after it, of two sets of days
abbrev pub IsPictureOf : Sketch → Sketch → ℤ → List ℕ → Type 0
IsPictureOf a b day text = text ≡ picture_text a b (first_of_month day)
