-- The proleptic Gregorian calendar over all years (ISO 8601). Day 0 is 1970-01-01.
pub mod Laws
pub mod Week
use Rattle.std.specs.Prelude.{ℕ, zero, suc, ◌+◌, ◌-◌, ◌≤◌, Bool, not, ◌&&◌, ◌||◌, ◌==◌, nat_le, if◌then◌else◌, ℤ, pos, neg_ℤ, nat_abs, ◌+ℤ◌, ◌-ℤ◌, ◌*ℤ◌}
use Rattle.std.specs.Prelude.{◌≤ℤ◌, ◌<ℤ◌, int_lt, int_le}
use Rattle.rr_model.specs.Bounds.{days_before_1970}
use Rattle.rr_model.specs.Whole.{floor_div, floor_mod, divides}

-- 4 divides the year and 100 does not, or 400 divides it
abbrev pub is_leap : ℤ → Bool
is_leap y = (divides 4 y && not (divides 100 y)) || divides 400 y

-- how many days the year has
abbrev pub days_in_year : ℤ → ℕ
days_in_year y = if is_leap y then 366 else 365

-- how many days the month m of the year has
abbrev pub days_in_month : ℤ → ℕ → ℕ
days_in_month y m =
    if m == 2 then (if is_leap y then 29 else 28)
    else (if (m == 4) || (m == 6) || (m == 9) || (m == 11) then 30 else 31)

-- the days of the first n months of the year
unfoldable pub days_of_months : ℤ → ℕ → ℕ
days_of_months y zero = 0
days_of_months y (suc n) = days_of_months y n + days_in_month y (suc n)

-- the day number of 1 January of the year
unfoldable pub first_day_of_year : ℤ → ℤ
first_day_of_year y =
    ((((pos 365 *ℤ (y -ℤ pos 1)) +ℤ floor_div (y -ℤ pos 1) 4) -ℤ floor_div (y -ℤ pos 1) 100) +ℤ floor_div (y -ℤ pos 1) 400) -ℤ pos days_before_1970

-- the day number of the day k of the month m of the year y
unfoldable pub day_number : ℤ → ℕ → ℕ → ℤ
day_number y m k = (first_day_of_year y +ℤ pos (days_of_months y (m - 1))) +ℤ pos (k - 1)

-- the year has this month, and the month this day
abbrev pub IsDate : ℤ → ℕ → ℕ → Type 0
IsDate y m k = (1 ≤ m) × (m ≤ 12) × (1 ≤ k) × (k ≤ days_in_month y m)

-- whether the year has this month, and the month this day
abbrev pub is_date : ℤ → ℕ → ℕ → Bool
is_date y m k = nat_le 1 m && nat_le m 12 && nat_le 1 k && nat_le k (days_in_month y m)

-- ---- the date of a day

-- the day lies in the year
pub record IsInYear (d y : ℤ) : Type 0 where
  pub begun : first_day_of_year y ≤ℤ d
  pub not_over : d <ℤ first_day_of_year (y +ℤ pos 1)

-- the day's year, or one beside it: 400 years have 146,097 days
abbrev pub year_near : ℤ → ℤ
year_near d = floor_div ((d +ℤ pos days_before_1970) *ℤ pos 400) 146_097 +ℤ pos 1

-- the year in which a day lies
unfoldable pub year_of : ℤ → ℤ
year_of d =
    if int_lt d (first_day_of_year (year_near d)) then year_near d -ℤ pos 1
    else (if int_le (first_day_of_year (year_near d +ℤ pos 1)) d then year_near d +ℤ pos 1 else year_near d)

-- how many days of its year lie before a day
unfoldable pub days_into_year : ℤ → ℕ
days_into_year d = nat_abs (d -ℤ first_day_of_year (year_of d))

-- how many of the first n months of the year y are over when p of its days are
unfoldable pub months_over : ℤ → ℕ → ℕ → ℕ
months_over y p zero = 0
months_over y p (suc n) = months_over y p n + (if nat_le (days_of_months y (suc n)) p then 1 else 0)

-- the month in which a day lies, from 1
unfoldable pub month_of : ℤ → ℕ
month_of d = months_over (year_of d) (days_into_year d) 11 + 1

-- the day's number in its month, from 1
unfoldable pub day_of_month : ℤ → ℕ
day_of_month d = days_into_year d - days_of_months (year_of d) (month_of d - 1) + 1

-- the day's number in its year, from 1
unfoldable pub day_of_year : ℤ → ℕ
day_of_year d = days_into_year d + 1

-- the weekday of a day, from 0 for Monday: day 0 is a Thursday
unfoldable pub weekday_of : ℤ → ℕ
weekday_of d = floor_mod (d +ℤ pos 3) 7

-- the kind of a year, of which there are 14: the weekday of 1 January, plus 7 in a leap year
unfoldable pub kind_of_year : ℤ → ℕ
kind_of_year y = weekday_of (first_day_of_year y) + (if is_leap y then 7 else 0)

-- ---- how far the calls go

-- the day lies within MAX_DAY and that many days more
abbrev pub IsDayWithin : ℕ → ℤ → Type 0
IsDayWithin more d = (neg_ℤ (pos (3_000_000_000_000 + more)) ≤ℤ d) × (d ≤ℤ pos (3_000_000_000_000 + more))
