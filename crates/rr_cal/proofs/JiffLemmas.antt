-- The calendar's day numbers, beside those of `jiff`.
use Rattle.std.proofs.Common.{◌≡◌, ◌↔◌, ℕ, zero, suc, ◌+◌, ◌-◌, ◌%◌, ◌≤◌, cond, not, ◌==◌, ◌&&◌, ◌||◌, refl, sym, ap, ◌∙◌, arith, ℤ, pos, negsuc, neg_ℤ}
use Rattle.std.proofs.Common.{◌+ℤ◌, ◌-ℤ◌, ◌*ℤ◌, ◌≤ℤ◌, unsigned_abs}
use Rattle.std.proofs.lemmas.Bool.Decides.{nat_tests}
use Rattle.jiff_core.specs.Calendar.{IsYear, IsDate as IsJiffDate, is_leap_year, days_in_month as days_in_jiff_month, days_of_months as days_of_jiff_months}
use Rattle.jiff_core.specs.Calendar.{day_count, days_from_civil, weekday_number}
use Rattle.jiff_core.proofs.SignedLemmas.{signed_arith}
use Rattle.jiff_core.proofs.CalendarLemmas.{days_from_civil-day_count, day_count-day_of_year}
use Rattle.jiff_core.proofs.MarchLemmas.{day_count-early}
use Rattle.jiff_core.specs.Date.{epoch_day, ordinal}
use Rattle.jiff_core.specs.declared.civil.date.Date.{Date as Plain}
use Rattle.rr_model.specs.Whole.{divides}
use Rattle.rr_model.specs.Calendar.{is_leap, days_in_month, days_in_year, days_of_months, first_day_of_year, day_number, IsDate, IsDayWithin, day_of_year}
use Rattle.rr_model.specs.Calendar.{weekday_of, kind_of_year}
use Rattle.rr_model.proofs.FloorLemmas.{floor_div-int, floor_mod-int}
use Rattle.rr_model.proofs.CalendarLemmas.{first_day_of_year_bounds, IsInYear-day_number, days_into_year-day_number}
use Rattle.rr_model.proofs.CycleLemmas.{IsDate-cycle, day_number-cycle, days_in_month-cycle, days_of_months-cycle}
use Rattle.rr_model.proofs.WeekLemmas.{day_number-january_1}
use Rattle.rr_model.proofs.CalendarLawProofs.{kind_of_year-cycle}
use borrow.Author.Differences.{up, down}

-- ---- the same calendar

leap_same : (a : ℕ) → (((a % 4 == 0) && not (a % 100 == 0)) || (a % 400 == 0)) ≡ ((a % 4 == 0) && (not (a % 100 == 0) || (a % 400 == 0)))
leap_same a = grind (arith, nat_tests)

divides_4 : (a : ℕ) → divides 4 (negsuc a) ≡ (suc a % 4 == 0)
divides_4 a = grind (arith, nat_tests)

divides_100 : (a : ℕ) → divides 100 (negsuc a) ≡ (suc a % 100 == 0)
divides_100 a = grind (arith, nat_tests)

divides_400 : (a : ℕ) → divides 400 (negsuc a) ≡ (suc a % 400 == 0)
divides_400 a = grind (arith, nat_tests)

is_leap-jiff : (y : ℤ) → is_leap y ≡ is_leap_year y
is_leap-jiff (pos a) = leap_same a
is_leap-jiff (negsuc a) = rw (divides_4 a, divides_100 a, divides_400 a) (leap_same (suc a))

pub days_in_month-jiff : (y : ℤ) (m : ℕ) → days_in_month y m ≡ days_in_jiff_month y m
days_in_month-jiff y m = rw (is_leap-jiff y)

pub days_in_year-jiff : (y : ℤ) → days_in_year y ≡ cond (is_leap_year y) 366 365
days_in_year-jiff y = rw (is_leap-jiff y) refl

days_of_months-jiff : (y : ℤ) (n : ℕ) → days_of_months y n ≡ days_of_jiff_months y n
unfolding days_of_months days_of_jiff_months
days_of_months-jiff y zero = refl
days_of_months-jiff y (suc n) = rw (days_of_months-jiff y n, days_in_month-jiff y (suc n))

-- the first day of a year that `jiff` counts days to
day_count-first : (y : ℤ) → neg_ℤ (pos 9999) ≤ℤ y → up (first_day_of_year y) + 4_371_953 ≡ down (first_day_of_year y) + day_count y 1 1
unfolding first_day_of_year
day_count-first y low =
    let n = up y + 9999 - down y in
    let e : y +ℤ pos 10000 ≡ pos (suc n) = omega (arith, signed_arith) in
    rw (floor_div-int (y -ℤ pos 1) 4, floor_div-int (y -ℤ pos 1) 100, floor_div-int (y -ℤ pos 1) 400)
    (omega (arith, signed_arith, day_count-early y n 1 1 e (omega arith) (omega arith) (omega arith)))

-- a date's day number is the one that `jiff` has
pub day_number-jiff : (y : ℤ) (m k : ℕ) → neg_ℤ (pos 9999) ≤ℤ y → 1 ≤ k → day_number y m k ≡ days_from_civil y m k
unfolding day_number
day_number-jiff y m k low h =
    omega (arith, signed_arith, day_count-first y low, days_of_months-jiff y (m - 1), days_from_civil-day_count y m k, day_count-day_of_year y m k h)

-- ---- a date of `jiff`, moved by whole cycles

module _ (d : Plain) (c : ℤ) where
  pub IsDate-moved : IsDate (d.year +ℤ (pos 400 *ℤ c)) d.month d.day
  IsDate-moved =
      IsDate-cycle d.year c d.month d.day (d.month_in.0, d.month_in.1, d.day_in.0, omega (arith, days_in_month-jiff d.year d.month, d.day_in.1))

  pub day_number-moved : day_number (d.year +ℤ (pos 400 *ℤ c)) d.month d.day ≡ epoch_day d +ℤ (pos 146_097 *ℤ c)
  day_number-moved =
      day_number-cycle d.year c d.month d.day
      ∙ ap (λ z. z +ℤ (pos 146_097 *ℤ c)) (day_number-jiff d.year d.month d.day (omega (arith, signed_arith, d.year_in)) d.day_in.0)

-- a date and the date of the same name in the cycle that holds the year 0
pub IsDate-inner : (y q r : ℤ) (m k : ℕ) → y ≡ r +ℤ (pos 400 *ℤ q) → IsYear r → IsJiffDate r (pos m) (pos k) ↔ IsDate y m k
IsDate-inner y q r m k e year =
    let length : days_in_month y m ≡ days_in_jiff_month r m = ap (λ z. days_in_month z m) e ∙ days_in_month-cycle r q m ∙ days_in_month-jiff r m in (
      λ h. (
        omega (arith, signed_arith, h.1.0),
        omega (arith, signed_arith, h.1.1),
        omega (arith, signed_arith, h.2.0),
        omega (arith, signed_arith, h.2.1, length),
      ),
      λ v. (
        year,
        (omega (arith, signed_arith, v.0), omega (arith, signed_arith, v.1)),
        (omega (arith, signed_arith, v.2), omega (arith, signed_arith, v.3, length)),
      ),
    )

-- a year with days near 1970 is near
pub year_near_day : (y : ℤ) (m k : ℕ) → IsDate y m k → IsDayWithin 3000 (day_number y m k) → (neg_ℤ (pos 9_000_000_000) ≤ℤ y) × (y ≤ℤ pos 9_000_000_000)
year_near_day y m k h near =
    let within = IsInYear-day_number y m k h in
    let this = first_day_of_year_bounds y in
    let next = first_day_of_year_bounds (y +ℤ pos 1) in
    (omega (arith, signed_arith, within.not_over, near.0, next.1), omega (arith, signed_arith, within.begun, near.1, this.0))

-- ---- kinds of year

weekday_of-jiff : (d : ℤ) → weekday_of d ≡ weekday_number d
unfolding weekday_of weekday_number
weekday_of-jiff d = ap unsigned_abs (floor_mod-int (d +ℤ pos 3) 7)

-- a year's kind, by 1 January of the year of the same place in the cycle that holds the year 0
pub kind_of_year-jiff : (y q : ℤ) (d : Plain) → y ≡ d.year +ℤ (pos 400 *ℤ q) → d.month ≡ 1 → d.day ≡ 1
    → kind_of_year y ≡ weekday_number (epoch_day d) + cond (is_leap_year d.year) 7 0
unfolding kind_of_year
kind_of_year-jiff y q d e month day =
    let first : first_day_of_year d.year ≡ epoch_day d =
    sym (day_number-january_1 d.year) ∙ day_number-jiff d.year 1 1 (omega (arith, signed_arith, d.year_in)) (omega arith) ∙ rw (month, day) refl in
    let same : kind_of_year y ≡ kind_of_year d.year = ap kind_of_year e ∙ kind_of_year-cycle d.year q in
    same ∙ rw (first, weekday_of-jiff (epoch_day d), is_leap-jiff d.year) refl

-- a date's number in its year is the one that `jiff` has for the date of the same month and day in another cycle
pub day_of_year-jiff : (y q : ℤ) (m k : ℕ) (d : Plain) → y ≡ d.year +ℤ (pos 400 *ℤ q) → d.month ≡ m → d.day ≡ k → IsDate y m k
    → ordinal d ≡ day_of_year (day_number y m k)
unfolding day_of_year
day_of_year-jiff y q m k d year month day h =
    let months = ap (λ z. days_of_months z (m - 1)) year ∙ days_of_months-cycle d.year q (m - 1) ∙ days_of_months-jiff d.year (m - 1) in
    rw (month, day) (omega (arith, months, days_into_year-day_number y m k h, h.2))
