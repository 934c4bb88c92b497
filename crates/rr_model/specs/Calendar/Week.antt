-- Weeks that begin on the weekday w, from 0 for Monday (RFC 5545, section 3.3.10, WKST and BYWEEKNO; ISO 8601).
-- A week belongs to the year in which at least four of its days lie, so to the year of its fourth day.
use Rattle.std.specs.Prelude.{ℕ, ◌+◌, ◌/◌, ℤ, pos, ◌+ℤ◌, ◌-ℤ◌, ◌*ℤ◌}
use Rattle.rr_model.specs.Whole.{floor_div}
use Rattle.rr_model.specs.Calendar.{day_number, year_of, days_into_year}

-- which week a day lies in
unfoldable pub week_index : ℤ → ℕ → ℤ
week_index d w = floor_div ((d +ℤ pos 3) -ℤ pos w) 7

-- the fourth day of a week
unfoldable pub fourth_day : ℤ → ℕ → ℤ
fourth_day i w = (pos 7 *ℤ i) +ℤ pos w

-- the year that a week belongs to
unfoldable pub week_year : ℤ → ℕ → ℤ
week_year i w = year_of (fourth_day i w)

-- a week's number in its year, from 1
unfoldable pub week_number : ℤ → ℕ → ℕ
week_number i w = days_into_year (fourth_day i w) / 7 + 1

-- the number of a year's last week, in which 28 December always lies
unfoldable pub last_week : ℤ → ℕ → ℕ
last_week y w = week_number (week_index (day_number y 12 28) w) w
