-- Laws of the calendar, over all whole numbers.
use Rattle.std.specs.Prelude.{◌≡◌, ℕ, ◌≤◌, ℤ, pos, ◌+ℤ◌, ◌*ℤ◌}
use Rattle.rr_model.specs.Calendar.{is_leap, days_in_year, days_in_month, first_day_of_year, day_number, IsDate, year_of, month_of, day_of_month}
use Rattle.rr_model.specs.Calendar.{day_of_year, weekday_of, kind_of_year}
use Rattle.rr_model.specs.Calendar.Week.{week_index, fourth_day, week_year, week_number, last_week}

-- ---- each day has exactly one date

-- the day has a date, whose number it is
pub record HasDate (d : ℤ) : Type 0 where
  pub date : IsDate (year_of d) (month_of d) (day_of_month d)
  pub number : day_number (year_of d) (month_of d) (day_of_month d) ≡ d

-- the day's date is this one
pub record HasDateOf (d y : ℤ) (m k : ℕ) : Type 0 where
  pub year : year_of d ≡ y
  pub month : month_of d ≡ m
  pub day : day_of_month d ≡ k

-- The date of a day has its number, and the number of a date has that date.
pub record DatesAndDaysAreInverse : Type 0 where
  pub of_day : (d : ℤ) → HasDate d
  pub of_date : (y : ℤ) (m k : ℕ) → IsDate y m k → HasDateOf (day_number y m k) y m k

-- ---- the last week of a year

-- n is the greatest number of a week of the year
pub record IsLastWeek (y : ℤ) (w n : ℕ) : Type 0 where
  pub week : ℤ
  pub in_year : week_year week w ≡ y
  pub number : week_number week w ≡ n
  pub greatest : (i : ℤ) → week_year i w ≡ y → week_number i w ≤ n

-- the week of 28 December has the greatest number
abbrev pub LastWeekIsGreatest : Type 0
LastWeekIsGreatest = (y : ℤ) (w : ℕ) → IsLastWeek y w (last_week y w)

-- ---- 400 years are 146,097 days, which are 20,871 weeks, and then the calendar begins again

-- the day as many cycles of 400 years later as `cycles` says, earlier if it is negative
abbrev pub later_day : ℤ → ℤ → ℤ
later_day cycles d = d +ℤ (pos 146_097 *ℤ cycles)

-- the year as many cycles of 400 years later as `cycles` says
abbrev pub later_year : ℤ → ℤ → ℤ
later_year cycles y = y +ℤ (pos 400 *ℤ cycles)

-- the week as many cycles of 400 years later as `cycles` says
abbrev pub later_week : ℤ → ℤ → ℤ
later_week cycles i = i +ℤ (pos 20_871 *ℤ cycles)

-- what is the same of the later day
pub record DayRepeats (cycles d : ℤ) : Type 0 where
  pub year : year_of (later_day cycles d) ≡ later_year cycles (year_of d)
  pub month : month_of (later_day cycles d) ≡ month_of d
  pub day_of_month : day_of_month (later_day cycles d) ≡ day_of_month d
  pub day_of_year : day_of_year (later_day cycles d) ≡ day_of_year d
  pub weekday : weekday_of (later_day cycles d) ≡ weekday_of d
  pub week : (w : ℕ) → week_index (later_day cycles d) w ≡ later_week cycles (week_index d w)

-- what is the same of the later year
pub record YearRepeats (cycles y : ℤ) : Type 0 where
  pub first_day : first_day_of_year (later_year cycles y) ≡ later_day cycles (first_day_of_year y)
  pub leap : is_leap (later_year cycles y) ≡ is_leap y
  pub length : days_in_year (later_year cycles y) ≡ days_in_year y
  pub days_in_months : (m : ℕ) → days_in_month (later_year cycles y) m ≡ days_in_month y m
  pub day_numbers : (m k : ℕ) → day_number (later_year cycles y) m k ≡ later_day cycles (day_number y m k)
  pub kind : kind_of_year (later_year cycles y) ≡ kind_of_year y
  pub last_weeks : (w : ℕ) → last_week (later_year cycles y) w ≡ last_week y w

-- what is the same of the later week, for every week start
pub record WeekRepeats (cycles i : ℤ) (w : ℕ) : Type 0 where
  pub fourth_day : fourth_day (later_week cycles i) w ≡ later_day cycles (fourth_day i w)
  pub year : week_year (later_week cycles i) w ≡ later_year cycles (week_year i w)
  pub number : week_number (later_week cycles i) w ≡ week_number i w

-- The calendar begins again each 146,097 days, 400 years later.
pub record CalendarRepeats : Type 0 where
  pub days : (cycles d : ℤ) → DayRepeats cycles d
  pub years : (cycles y : ℤ) → YearRepeats cycles y
  pub weeks : (cycles i : ℤ) (w : ℕ) → WeekRepeats cycles i w
