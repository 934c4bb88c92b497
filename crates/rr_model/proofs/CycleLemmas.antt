-- The calendar over cycles of 400 years, which have 146,097 days: c is a number of cycles, of any sign.
use Rattle.std.proofs.Common.{◌≡◌, ℕ, zero, suc, ◌-◌, ℤ, pos, ◌+ℤ◌, ◌-ℤ◌, ◌*ℤ◌, refl, ap, ◌∙◌, arith}
use Rattle.std.proofs.lemmas.Int.{ints}
use Rattle.rr_model.specs.Whole.{floor_div, floor_mod}
use Rattle.rr_model.specs.Calendar.{is_leap, days_in_month, days_of_months, first_day_of_year, day_number, IsDate, year_of, days_into_year, months_over}
use Rattle.rr_model.specs.Calendar.{month_of, day_of_month, day_of_year, weekday_of}
use Rattle.rr_model.proofs.FloorLemmas.{floor_div-add, floor_mod-add}
use Rattle.rr_model.proofs.CalendarLemmas.{IsInYear-year_of, year_of_is, days_into_year_is}

-- ---- years

module _ (y c : ℤ) where
  turns_4 : y +ℤ (pos 400 *ℤ c) ≡ y +ℤ ((pos 100 *ℤ c) *ℤ pos 4)
  turns_4 = omega (arith, ints)

  turns_100 : y +ℤ (pos 400 *ℤ c) ≡ y +ℤ ((pos 4 *ℤ c) *ℤ pos 100)
  turns_100 = omega (arith, ints)

  turns_400 : y +ℤ (pos 400 *ℤ c) ≡ y +ℤ (c *ℤ pos 400)
  turns_400 = omega (arith, ints)

  mod_4 : floor_mod (y +ℤ (pos 400 *ℤ c)) 4 ≡ floor_mod y 4
  mod_4 = ap (λ z. floor_mod z 4) turns_4 ∙ floor_mod-add y (pos 100 *ℤ c) 4 (omega arith)

  mod_100 : floor_mod (y +ℤ (pos 400 *ℤ c)) 100 ≡ floor_mod y 100
  mod_100 = ap (λ z. floor_mod z 100) turns_100 ∙ floor_mod-add y (pos 4 *ℤ c) 100 (omega arith)

  mod_400 : floor_mod (y +ℤ (pos 400 *ℤ c)) 400 ≡ floor_mod y 400
  mod_400 = ap (λ z. floor_mod z 400) turns_400 ∙ floor_mod-add y c 400 (omega arith)

  div_4 : floor_div (y +ℤ (pos 400 *ℤ c)) 4 ≡ floor_div y 4 +ℤ (pos 100 *ℤ c)
  div_4 = ap (λ z. floor_div z 4) turns_4 ∙ floor_div-add y (pos 100 *ℤ c) 4 (omega arith)

  div_100 : floor_div (y +ℤ (pos 400 *ℤ c)) 100 ≡ floor_div y 100 +ℤ (pos 4 *ℤ c)
  div_100 = ap (λ z. floor_div z 100) turns_100 ∙ floor_div-add y (pos 4 *ℤ c) 100 (omega arith)

  div_400 : floor_div (y +ℤ (pos 400 *ℤ c)) 400 ≡ floor_div y 400 +ℤ c
  div_400 = ap (λ z. floor_div z 400) turns_400 ∙ floor_div-add y c 400 (omega arith)

  pub is_leap-cycle : is_leap (y +ℤ (pos 400 *ℤ c)) ≡ is_leap y
  is_leap-cycle = rw (mod_4, mod_100, mod_400) refl

  pub days_in_month-cycle : (m : ℕ) → days_in_month (y +ℤ (pos 400 *ℤ c)) m ≡ days_in_month y m
  days_in_month-cycle m = rw is_leap-cycle refl

  pub days_of_months-cycle : (n : ℕ) → days_of_months (y +ℤ (pos 400 *ℤ c)) n ≡ days_of_months y n
  unfolding days_of_months
  days_of_months-cycle zero = refl
  days_of_months-cycle (suc n) = rw (days_of_months-cycle n, days_in_month-cycle (suc n)) refl

pub first_day_of_year-cycle : (y c : ℤ) → first_day_of_year (y +ℤ (pos 400 *ℤ c)) ≡ first_day_of_year y +ℤ (pos 146_097 *ℤ c)
unfolding first_day_of_year
first_day_of_year-cycle y c =
    let e : (y +ℤ (pos 400 *ℤ c)) -ℤ pos 1 ≡ (y -ℤ pos 1) +ℤ (pos 400 *ℤ c) = omega (arith, ints) in
    rw (e, div_4 (y -ℤ pos 1) c, div_100 (y -ℤ pos 1) c, div_400 (y -ℤ pos 1) c) (omega (arith, ints))

-- ---- dates

pub IsDate-cycle : (y c : ℤ) (m k : ℕ) → IsDate y m k → IsDate (y +ℤ (pos 400 *ℤ c)) m k
IsDate-cycle y c m k h = (h.0, h.1, h.2, rw (days_in_month-cycle y c m) h.3)

pub day_number-cycle : (y c : ℤ) (m k : ℕ) → day_number (y +ℤ (pos 400 *ℤ c)) m k ≡ day_number y m k +ℤ (pos 146_097 *ℤ c)
unfolding day_number
day_number-cycle y c m k =
    rw (days_of_months-cycle y c (m - 1), first_day_of_year-cycle y c) (omega (arith, ints))

-- ---- days

module _ (d c : ℤ) where
  pub year_of-cycle : year_of (d +ℤ (pos 146_097 *ℤ c)) ≡ year_of d +ℤ (pos 400 *ℤ c)
  year_of-cycle =
      let y = year_of d in
      let i = IsInYear-year_of d in
      let next : (y +ℤ (pos 400 *ℤ c)) +ℤ pos 1 ≡ (y +ℤ pos 1) +ℤ (pos 400 *ℤ c) = omega (arith, ints) in
      year_of_is (d +ℤ (pos 146_097 *ℤ c)) (y +ℤ (pos 400 *ℤ c)) (record {
        begun = omega (arith, ints, i.begun, first_day_of_year-cycle y c);
        not_over = rw next (omega (arith, ints, i.not_over, first_day_of_year-cycle (y +ℤ pos 1) c));
      })

  pub days_into_year-cycle : days_into_year (d +ℤ (pos 146_097 *ℤ c)) ≡ days_into_year d
  days_into_year-cycle =
      let there = rw year_of-cycle at (days_into_year_is (d +ℤ (pos 146_097 *ℤ c))) in
      omega (arith, ints, there, days_into_year_is d, first_day_of_year-cycle (year_of d) c)

  months_over-cycle : (p n : ℕ) → months_over (year_of (d +ℤ (pos 146_097 *ℤ c))) p n ≡ months_over (year_of d) p n
  unfolding months_over
  months_over-cycle p zero = refl
  months_over-cycle p (suc n) =
      rw (months_over-cycle p n, year_of-cycle, days_of_months-cycle (year_of d) c (suc n)) refl

  pub month_of-cycle : month_of (d +ℤ (pos 146_097 *ℤ c)) ≡ month_of d
  unfolding month_of
  month_of-cycle = rw (days_into_year-cycle, months_over-cycle (days_into_year d) 11) refl

  pub day_of_month-cycle : day_of_month (d +ℤ (pos 146_097 *ℤ c)) ≡ day_of_month d
  unfolding day_of_month
  day_of_month-cycle =
      rw (days_into_year-cycle, month_of-cycle, year_of-cycle, days_of_months-cycle (year_of d) c (month_of d - 1)) refl

  pub day_of_year-cycle : day_of_year (d +ℤ (pos 146_097 *ℤ c)) ≡ day_of_year d
  unfolding day_of_year
  day_of_year-cycle = rw days_into_year-cycle refl

  pub weekday_of-cycle : weekday_of (d +ℤ (pos 146_097 *ℤ c)) ≡ weekday_of d
  unfolding weekday_of
  weekday_of-cycle =
      let e : (d +ℤ (pos 146_097 *ℤ c)) +ℤ pos 3 ≡ (d +ℤ pos 3) +ℤ ((pos 20_871 *ℤ c) *ℤ pos 7) = omega (arith, ints) in
      ap (λ z. floor_mod z 7) e ∙ floor_mod-add (d +ℤ pos 3) (pos 20_871 *ℤ c) 7 (omega arith)
