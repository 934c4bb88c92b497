-- The date and the weekday of the day after a day.
use Rattle.std.proofs.Common.{◌≡◌, ℕ, ◌+◌, ◌-◌, ◌<◌, ◌≤◌, ℤ, pos, ◌+ℤ◌, sym, ap, ◌∙◌, arith}
use Rattle.std.proofs.lemmas.Int.{ints}
use Rattle.rr_model.specs.Whole.{floor_div, floor_mod}
use Rattle.rr_model.specs.Calendar.{day_number, IsDate, year_of, month_of, day_of_month, day_of_year, weekday_of}
use Rattle.rr_model.specs.Calendar.{days_in_month, days_of_months, first_day_of_year}
use Rattle.rr_model.specs.Calendar.Laws.{HasDateOf}
use Rattle.rr_model.proofs.WholeLemmas.{floor_only, floor_whole}
use Rattle.rr_model.proofs.CalendarLemmas.{date_only, day_number_is, day_number-year_of, IsDate-year_of, first_day_of_year-next, days_of_months-all}
use Rattle.rr_model.proofs.CalendarLemmas.{days_of_months-next, days_of_months-zero, days_into_year_is, days_into_year_below, days_into_year-day_number}
use Rattle.rr_model.proofs.CalendarLemmas.{days_in_month_bounds, days_in_year_bounds}
use Rattle.rr_model.proofs.WeekLemmas.{IsDate-january_1, day_number-january_1}

-- a day has the date whose number it is
HasDateOf-day_number : (d y : ℤ) (m k : ℕ) → IsDate y m k → day_number y m k ≡ d → HasDateOf d y m k
HasDateOf-day_number d y m k h e =
    let o = date_only d y m k h e in
    record { year = sym o.0; month = sym o.1; day = sym o.2 }

-- the day after d
module _ (d : ℤ) where
  -- inside the month
  pub HasDateOf-next_day : day_of_month d < days_in_month (year_of d) (month_of d)
      → HasDateOf (d +ℤ pos 1) (year_of d) (month_of d) (day_of_month d + 1)
  HasDateOf-next_day inside =
      let y = year_of d in
      let m = month_of d in
      let k = day_of_month d in
      let h = IsDate-year_of d in
      HasDateOf-day_number (d +ℤ pos 1) y m (k + 1) (h.0, h.1, omega arith, omega (arith, inside))
      (omega (arith, ints, day_number_is y m (k + 1) (omega arith), day_number_is y m k h.2, day_number-year_of d, h.2))

  -- after the month's last day
  pub HasDateOf-next_month : day_of_month d ≡ days_in_month (year_of d) (month_of d) → month_of d < 12
      → HasDateOf (d +ℤ pos 1) (year_of d) (month_of d + 1) 1
  HasDateOf-next_month last inside =
      let y = year_of d in
      let m = month_of d in
      let k = day_of_month d in
      let h = IsDate-year_of d in
      let back : m - 1 + 1 ≡ m = omega (arith, h.0) in
      let over : m + 1 - 1 ≡ m = omega arith in
      let grown = rw back at (days_of_months-next y (m - 1)) in
      let first = rw over at (day_number_is y (m + 1) 1 (omega arith)) in
      HasDateOf-day_number (d +ℤ pos 1) y (m + 1) 1 (omega arith, omega (arith, inside), omega arith, omega (arith, days_in_month_bounds y (m + 1)))
      (omega (arith, ints, first, grown, last, day_number_is y m k h.2, day_number-year_of d, h.2))

  -- after 31 December
  pub HasDateOf-next_year : day_of_month d ≡ days_in_month (year_of d) (month_of d) → month_of d ≡ 12
      → HasDateOf (d +ℤ pos 1) (year_of d +ℤ pos 1) 1 1
  HasDateOf-next_year last end =
      let y = year_of d in
      let k = day_of_month d in
      let h = IsDate-year_of d in
      let new_year : day_number (y +ℤ pos 1) 1 1 ≡ first_day_of_year y +ℤ pos (days_of_months y 11 + days_in_month y 12) =
      omega (arith, ints, day_number-january_1 (y +ℤ pos 1), first_day_of_year-next y, days_of_months-all y, days_of_months-next y 11) in
      let long : k ≡ days_in_month y 12 = last ∙ ap (days_in_month y) end in
      let place : day_number y 12 k ≡ d = ap (λ m. day_number y m k) (sym end) ∙ day_number-year_of d in
      HasDateOf-day_number (d +ℤ pos 1) (y +ℤ pos 1) 1 1 (IsDate-january_1 (y +ℤ pos 1))
      (omega (arith, ints, new_year, long, place, day_number_is y 12 k h.2, h.2))

  -- if it lies in the same year
  pub day_of_year-next : year_of (d +ℤ pos 1) ≡ year_of d → day_of_year (d +ℤ pos 1) ≡ day_of_year d + 1
  unfolding day_of_year
  day_of_year-next same =
      omega (arith, ints, days_into_year_is d, rw same at (days_into_year_is (d +ℤ pos 1)))

  -- in the same week
  pub weekday_of-next : weekday_of d < 6 → weekday_of (d +ℤ pos 1) ≡ weekday_of d + 1
  unfolding weekday_of
  weekday_of-next inside =
      let z = d +ℤ pos 3 in
      (floor_only ((d +ℤ pos 1) +ℤ pos 3) (floor_div z 7) 7 (floor_mod z 7 + 1) (omega (arith, inside))
      (omega (arith, ints, floor_whole z 7 (omega arith)))).1

  -- after a Sunday
  pub weekday_of-next_week : weekday_of d ≡ 6 → weekday_of (d +ℤ pos 1) ≡ 0
  unfolding weekday_of
  weekday_of-next_week sunday =
      let z = d +ℤ pos 3 in
      (floor_only ((d +ℤ pos 1) +ℤ pos 3) (floor_div z 7 +ℤ pos 1) 7 0 (omega arith)
      (omega (arith, ints, sunday, floor_whole z 7 (omega arith)))).1

-- 1 January is the first day of its year
pub day_of_year-january_1 : (d y : ℤ) → HasDateOf d y 1 1 → day_of_year d ≡ 1
unfolding day_of_year
day_of_year-january_1 d y h =
    let first : day_number y 1 1 ≡ d = rw (h.year, h.month, h.day) at (day_number-year_of d) in
    let place = rw first at (days_into_year-day_number y 1 1 (IsDate-january_1 y)) in
    omega (arith, place, days_of_months-zero y)

pub day_of_year_below : (d : ℤ) → day_of_year d ≤ 366
unfolding day_of_year
day_of_year_below d = omega (arith, days_into_year_below d, days_in_year_bounds (year_of d))
