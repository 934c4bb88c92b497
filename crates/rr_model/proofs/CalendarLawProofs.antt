-- The laws of the calendar.
use Rattle.std.proofs.Common.{◌≡◌, ℕ, ◌+◌, ◌/◌, cond, ℤ, pos, ◌+ℤ◌, ◌-ℤ◌, ◌*ℤ◌, ap, ◌∙◌, arith}
use Rattle.std.proofs.lemmas.Int.{ints}
use Rattle.rr_model.specs.Whole.{floor_div}
use Rattle.rr_model.specs.Calendar.{is_leap, first_day_of_year, day_number, year_of, days_into_year, weekday_of, kind_of_year}
use Rattle.rr_model.specs.Calendar.Week.{week_index, fourth_day, week_year, week_number, last_week}
use Rattle.rr_model.specs.Calendar.Laws.{DatesAndDaysAreInverse, later_day, later_year, later_week, CalendarRepeats}
use Rattle.rr_model.proofs.FloorLemmas.{floor_div-add}
use Rattle.rr_model.proofs.CalendarLemmas.{IsDate-year_of, day_number-year_of, year_of-day_number, month_of-day_number, day_of_month-day_number}
use Rattle.rr_model.proofs.CycleLemmas.{is_leap-cycle, days_in_month-cycle, first_day_of_year-cycle, day_number-cycle, year_of-cycle, days_into_year-cycle}
use Rattle.rr_model.proofs.CycleLemmas.{month_of-cycle, day_of_month-cycle, day_of_year-cycle, weekday_of-cycle}

pub dates_and_days_are_inverse : DatesAndDaysAreInverse
dates_and_days_are_inverse = record {
  of_day = λ d. record { date = IsDate-year_of d; number = day_number-year_of d };
  of_date = λ y m k h. record { year = year_of-day_number y m k h; month = month_of-day_number y m k h; day = day_of_month-day_number y m k h };
}

-- ---- over cycles of 400 years

pub week_index-cycle : (d c : ℤ) (w : ℕ) → week_index (later_day c d) w ≡ later_week c (week_index d w)
unfolding week_index
week_index-cycle d c w =
    let e : ((d +ℤ (pos 146_097 *ℤ c)) +ℤ pos 3) -ℤ pos w ≡ ((d +ℤ pos 3) -ℤ pos w) +ℤ ((pos 20_871 *ℤ c) *ℤ pos 7) = omega (arith, ints) in
    ap (λ z. floor_div z 7) e ∙ floor_div-add ((d +ℤ pos 3) -ℤ pos w) (pos 20_871 *ℤ c) 7 (omega arith)

pub fourth_day-cycle : (i c : ℤ) (w : ℕ) → fourth_day (later_week c i) w ≡ later_day c (fourth_day i w)
unfolding fourth_day
fourth_day-cycle i c w = omega (arith, ints)

pub week_year-cycle : (i c : ℤ) (w : ℕ) → week_year (later_week c i) w ≡ later_year c (week_year i w)
unfolding week_year
week_year-cycle i c w = ap year_of (fourth_day-cycle i c w) ∙ year_of-cycle (fourth_day i w) c

pub week_number-cycle : (i c : ℤ) (w : ℕ) → week_number (later_week c i) w ≡ week_number i w
unfolding week_number
week_number-cycle i c w =
    ap (λ d. days_into_year d / 7 + 1) (fourth_day-cycle i c w) ∙ ap (λ n. n / 7 + 1) (days_into_year-cycle (fourth_day i w) c)

pub last_week-cycle : (y c : ℤ) (w : ℕ) → last_week (later_year c y) w ≡ last_week y w
unfolding last_week
last_week-cycle y c w =
    ap (λ d. week_number (week_index d w) w) (day_number-cycle y c 12 28)
    ∙ ap (λ i. week_number i w) (week_index-cycle (day_number y 12 28) c w)
    ∙ week_number-cycle (week_index (day_number y 12 28) w) c w

pub kind_of_year-cycle : (y c : ℤ) → kind_of_year (later_year c y) ≡ kind_of_year y
unfolding kind_of_year
kind_of_year-cycle y c =
    rw (is_leap-cycle y c) (ap (λ d. weekday_of d + cond (is_leap y) 7 0) (first_day_of_year-cycle y c)
    ∙ ap (λ n. n + cond (is_leap y) 7 0) (weekday_of-cycle (first_day_of_year y) c))

pub calendar_repeats : CalendarRepeats
calendar_repeats = record {
  days = λ c d. record {
    year = year_of-cycle d c;
    month = month_of-cycle d c;
    day_of_month = day_of_month-cycle d c;
    day_of_year = day_of_year-cycle d c;
    weekday = weekday_of-cycle d c;
    week = week_index-cycle d c;
  };
  years = λ c y. record {
    first_day = first_day_of_year-cycle y c;
    leap = is_leap-cycle y c;
    length = ap (λ b. cond b 366 365) (is_leap-cycle y c);
    days_in_months = days_in_month-cycle y c;
    day_numbers = day_number-cycle y c;
    kind = kind_of_year-cycle y c;
    last_weeks = last_week-cycle y c;
  };
  weeks = λ c i w. record {
    fourth_day = fourth_day-cycle i c w;
    year = week_year-cycle i c w;
    number = week_number-cycle i c w;
  };
}
