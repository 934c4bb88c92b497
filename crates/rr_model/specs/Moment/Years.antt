-- The years 1 to 9999, which texts can state (RFC 5545, section 3.3.4).
use Rattle.std.specs.Prelude.{◌↔◌, Bool, ◌&&◌, IsTrue, int_le, int_lt, ℤ, pos, ◌≤ℤ◌, ◌<ℤ◌}
use Rattle.rr_model.specs.Calendar.{first_day_of_year}
use Rattle.rr_model.specs.Moment.{Occurrences, day_part}
use Rattle.rr_model.specs.declared.kind.Kind.{Kind}

-- a day from 0001-01-01 on
abbrev pub IsFromYearOne : ℤ → Type 0
IsFromYearOne day = first_day_of_year (pos 1) ≤ℤ day

-- a day from 0001-01-01 to 9999-12-31
abbrev pub HasFourDigitYear : ℤ → Type 0
HasFourDigitYear day = IsFromYearOne day × (day <ℤ first_day_of_year (pos 10_000))

-- the moment lies in the years 1 to 9999
abbrev pub IsInYears : Kind → ℤ → Type 0
IsInYears kind t = HasFourDigitYear (day_part kind t)

-- each of these occurrences lies in the year 1 or later
abbrev pub OccurFromYearOne : Occurrences → Type 0
OccurFromYearOne P = (k : Kind) (t : ℤ) → P k t → IsFromYearOne (day_part k t)

-- ---- as tests

-- the day lies in the years 1 to 9999
abbrev pub has_four_digit_year : ℤ → Bool
has_four_digit_year day = int_le (first_day_of_year (pos 1)) day && int_lt day (first_day_of_year (pos 10_000))

-- the day of the occurrence lies in the years 1 to 9999
abbrev pub is_in_years : Kind → ℤ → Bool
is_in_years kind t = has_four_digit_year (day_part kind t)

-- The test says what the property says.
abbrev pub YearsAreTested : Type 0
YearsAreTested = (kind : Kind) (t : ℤ) → IsTrue (is_in_years kind t) ↔ IsInYears kind t
