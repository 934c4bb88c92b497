-- Years, months and days follow one another; each day has exactly one date.
use Rattle.std.proofs.Common.{◌≡◌, ◌↔◌, ◌⊎◌, inl, inr, ℕ, zero, suc, ◌+◌, ◌-◌, ◌<◌, ◌≤◌, true, false, cond, nat_le, ℤ, pos, nat_abs, ◌+ℤ◌, ◌-ℤ◌, ◌*ℤ◌, ◌≤ℤ◌}
use Rattle.std.proofs.Common.{◌<ℤ◌, IsTrue, refl, sym, ap, ◌∙◌, arith}
use Rattle.std.specs.Prelude.{int_lt, int_le}
use Rattle.std.proofs.lemmas.Int.{ints, by_lt_z}
use Rattle.std.proofs.lemmas.Bool.{cases_lt, cases_order}
use Rattle.std.proofs.lemmas.Bool.Decides.{nat_tests}
use Rattle.rr_model.specs.Bounds.{days_before_1970}
use Rattle.rr_model.specs.Whole.{floor_div, floor_mod}
use Rattle.rr_model.specs.Calendar.{days_in_year, days_in_month, days_of_months, first_day_of_year, day_number, IsDate, is_date, IsInYear, year_near}
use Rattle.rr_model.specs.Calendar.{year_of, days_into_year, months_over, month_of, day_of_month, weekday_of, kind_of_year}
use Rattle.rr_model.proofs.WholeLemmas.{floor_only, floor_whole, floor_mod_below}
use Rattle.rr_model.proofs.FloorLemmas.{floor_step}

-- ---- years

-- a multiple of 400 is one of 100, and one of 100 is one of 4
hundred_from : (y : ℤ) → floor_mod y 400 ≡ 0 → floor_mod y 100 ≡ 0
hundred_from y e =
    (floor_only y (floor_div y 400 *ℤ pos 4) 100 0 (omega arith) (omega (arith, ints, floor_whole y 400 (omega arith)))).1

four_from : (y : ℤ) → floor_mod y 100 ≡ 0 → floor_mod y 4 ≡ 0
four_from y e =
    (floor_only y (floor_div y 100 *ℤ pos 25) 4 0 (omega arith) (omega (arith, ints, floor_whole y 100 (omega arith)))).1

-- the length of a year by the three tests: 365, and what each quotient grows by
length_by : (y a b c a' b' c' : ℤ) → (floor_mod y 100 ≡ 0 → floor_mod y 4 ≡ 0) → (floor_mod y 400 ≡ 0 → floor_mod y 100 ≡ 0)
    → ((floor_mod y 4 ≡ 0) × (a' ≡ a +ℤ pos 1)) ⊎ ((floor_mod y 4 ≡ 0 → ⊥) × (a' ≡ a))
    → ((floor_mod y 100 ≡ 0) × (b' ≡ b +ℤ pos 1)) ⊎ ((floor_mod y 100 ≡ 0 → ⊥) × (b' ≡ b))
    → ((floor_mod y 400 ≡ 0) × (c' ≡ c +ℤ pos 1)) ⊎ ((floor_mod y 400 ≡ 0 → ⊥) × (c' ≡ c))
    → ((a' -ℤ b') +ℤ c') +ℤ pos 365 ≡ ((a -ℤ b) +ℤ c) +ℤ pos (days_in_year y)
length_by y a b c a' b' c' four hundred (inl f) (inl g) (inl h) = let l : days_in_year y ≡ 366 = grind (arith, nat_tests) in
    omega (arith, ints, f.1, g.1, h.1, l)
length_by y a b c a' b' c' four hundred (inl f) (inl g) (inr h) = let l : days_in_year y ≡ 365 = grind (arith, nat_tests) in
    omega (arith, ints, f.1, g.1, h.1, l)
length_by y a b c a' b' c' four hundred (inl f) (inr g) (inl h) = absurd (g.0 (hundred h.0))
length_by y a b c a' b' c' four hundred (inl f) (inr g) (inr h) = let l : days_in_year y ≡ 366 = grind (arith, nat_tests) in
    omega (arith, ints, f.1, g.1, h.1, l)
length_by y a b c a' b' c' four hundred (inr f) (inl g) h = absurd (f.0 (four g.0))
length_by y a b c a' b' c' four hundred (inr f) (inr g) (inl h) = absurd (g.0 (hundred h.0))
length_by y a b c a' b' c' four hundred (inr f) (inr g) (inr h) = let l : days_in_year y ≡ 365 = grind (arith, nat_tests) in
    omega (arith, ints, f.1, g.1, h.1, l)

-- a year begins where the year before it ends
pub first_day_of_year-next : (y : ℤ) → first_day_of_year (y +ℤ pos 1) ≡ first_day_of_year y +ℤ pos (days_in_year y)
unfolding first_day_of_year
first_day_of_year-next y =
    let e : (y +ℤ pos 1) -ℤ pos 1 ≡ y = omega (arith, ints) in
    let l = length_by y _ _ _ _ _ _ (four_from y) (hundred_from y) (floor_step y 4 (omega arith)) (floor_step y 100 (omega arith))
    (floor_step y 400 (omega arith)) in
    rw e (omega (arith, ints, l))

pub days_in_year_bounds : (y : ℤ) → (365 ≤ days_in_year y) × (days_in_year y ≤ 366)
days_in_year_bounds y = grind arith

-- 400 years are 146,097 days, but for the leap days that are still to come or have come early
pub first_day_of_year_bounds : (y : ℤ) → ((pos 146_097 *ℤ (y -ℤ pos 1)) ≤ℤ (((first_day_of_year y +ℤ pos days_before_1970) *ℤ pos 400) +ℤ pos 699))
    × (((first_day_of_year y +ℤ pos days_before_1970) *ℤ pos 400) ≤ℤ ((pos 146_097 *ℤ (y -ℤ pos 1)) +ℤ pos 396))
unfolding first_day_of_year
first_day_of_year_bounds y =
    let a = floor_whole (y -ℤ pos 1) 4 (omega arith) in
    let b = floor_whole (y -ℤ pos 1) 100 (omega arith) in
    let c = floor_whole (y -ℤ pos 1) 400 (omega arith) in
    let d = floor_mod_below (y -ℤ pos 1) 4 (omega arith) in
    let e = floor_mod_below (y -ℤ pos 1) 100 (omega arith) in
    let f = floor_mod_below (y -ℤ pos 1) 400 (omega arith) in
    (omega (arith, ints, a, b, c, d, e, f), omega (arith, ints, a, b, c, d, e, f))

rises : (y : ℤ) (k : ℕ) → first_day_of_year y ≤ℤ first_day_of_year (y +ℤ pos k)
rises y zero = let e : y +ℤ pos 0 ≡ y = omega (arith, ints) in rw e (omega (arith, ints))
rises y (suc k) =
    let e : y +ℤ pos (suc k) ≡ (y +ℤ pos k) +ℤ pos 1 = omega (arith, ints) in
    rw e (omega (arith, ints, first_day_of_year-next (y +ℤ pos k), rises y k))

-- later years begin later
pub first_day_of_year_mono : (x y : ℤ) → x ≤ℤ y → first_day_of_year x ≤ℤ first_day_of_year y
first_day_of_year_mono x y h =
    let e : y ≡ x +ℤ pos (nat_abs (y -ℤ x)) = omega (arith, ints) in
    rw e (rises x (nat_abs (y -ℤ x)))

-- ---- the year of a day

-- `year_near` is wrong by one year at most
year_near_is : (d : ℤ) → (first_day_of_year (year_near d -ℤ pos 1) ≤ℤ d) × (d <ℤ first_day_of_year ((year_near d +ℤ pos 1) +ℤ pos 1))
year_near_is d =
    let z = (d +ℤ pos days_before_1970) *ℤ pos 400 in
    let w = floor_whole z 146_097 (omega arith) in
    let b = floor_mod_below z 146_097 (omega arith) in
    let n = first_day_of_year_bounds (year_near d -ℤ pos 1) in
    let m = first_day_of_year_bounds ((year_near d +ℤ pos 1) +ℤ pos 1) in
    (omega (arith, ints, w, b, n.1), omega (arith, ints, w, b, m.0))

by_year_near : (d g : ℤ) → (first_day_of_year (g -ℤ pos 1) ≤ℤ d) × (d <ℤ first_day_of_year ((g +ℤ pos 1) +ℤ pos 1))
    → IsInYear d (cond (int_lt d (first_day_of_year g)) (g -ℤ pos 1) (cond (int_le (first_day_of_year (g +ℤ pos 1)) d) (g +ℤ pos 1) g))
by_year_near d g near =
    let back : (g -ℤ pos 1) +ℤ pos 1 ≡ g = omega (arith, ints) in
    elim (int_lt d (first_day_of_year g)) as (λ b. int_lt d (first_day_of_year g) ≡ b
    → IsInYear d (cond b (g -ℤ pos 1) (cond (int_le (first_day_of_year (g +ℤ pos 1)) d) (g +ℤ pos 1) g))) [
      | true ↦ λ e. (let l : d <ℤ first_day_of_year g = omega (arith, ints, e) in
          record { begun = near.0; not_over = rw back l })
      | false ↦ λ e. (let l : first_day_of_year g ≤ℤ d = omega (arith, ints, e) in
          elim (int_le (first_day_of_year (g +ℤ pos 1)) d) as (λ b. int_le (first_day_of_year (g +ℤ pos 1)) d ≡ b → IsInYear d (cond b (g +ℤ pos 1) g)) [
            | true ↦ λ f. record { begun = omega (arith, ints, f); not_over = near.1 }
            | false ↦ λ f. record { begun = l; not_over = omega (arith, ints, f) }
          ] refl)
    ] refl

-- each day lies in a year
pub IsInYear-year_of : (d : ℤ) → IsInYear d (year_of d)
unfolding year_of
IsInYear-year_of d = by_year_near d (year_near d) (year_near_is d)

-- and in one alone
pub year_only : (d x y : ℤ) → IsInYear d x → IsInYear d y → x ≡ y
year_only d x y i j =
    let P : Type 0 = x ≡ y in
    by_lt_z {P = P} x y (λ l. absurd (omega (arith, ints, first_day_of_year_mono (x +ℤ pos 1) y (omega (arith, ints)), i.not_over, j.begun)))
    (λ g. by_lt_z {P = P} y x (λ l. absurd (omega (arith, ints, first_day_of_year_mono (y +ℤ pos 1) x (omega (arith, ints)), j.not_over, i.begun)))
    (λ h. omega (arith, ints)))

pub year_of_is : (d y : ℤ) → IsInYear d y → year_of d ≡ y
year_of_is d y h = year_only d (year_of d) y (IsInYear-year_of d) h

-- a day is its year's first and the days since
pub days_into_year_is : (d : ℤ) → d ≡ first_day_of_year (year_of d) +ℤ pos (days_into_year d)
unfolding days_into_year
days_into_year_is d = let i = IsInYear-year_of d in omega (arith, ints, i.begun)

pub days_into_year_below : (d : ℤ) → days_into_year d < days_in_year (year_of d)
days_into_year_below d =
    let i = IsInYear-year_of d in
    omega (arith, ints, i.not_over, days_into_year_is d, first_day_of_year-next (year_of d))

-- ---- months

pub days_in_month_bounds : (y : ℤ) (m : ℕ) → (28 ≤ days_in_month y m) × (days_in_month y m ≤ 31)
days_in_month_bounds y m = grind arith

pub days_of_months-zero : (y : ℤ) → days_of_months y 0 ≡ 0
unfolding days_of_months
days_of_months-zero y = refl

pub days_of_months-next : (y : ℤ) (n : ℕ) → days_of_months y (n + 1) ≡ days_of_months y n + days_in_month y (n + 1)
unfolding days_of_months
days_of_months-next y n = let e : n + 1 ≡ suc n = omega arith in rw e refl

pub days_of_months-all : (y : ℤ) → days_of_months y 12 ≡ days_in_year y
unfolding days_of_months
days_of_months-all y = grind arith

months_rise : (y : ℤ) (m k : ℕ) → days_of_months y m ≤ days_of_months y (m + k)
months_rise y m zero = let e : m + 0 ≡ m = omega arith in rw e (omega arith)
months_rise y m (suc k) =
    let e : m + suc k ≡ m + k + 1 = omega arith in
    rw e (omega (arith, months_rise y m k, days_of_months-next y (m + k)))

pub days_of_months_mono : (y : ℤ) (m n : ℕ) → m ≤ n → days_of_months y m ≤ days_of_months y n
days_of_months_mono y m n h = let e : m + (n - m) ≡ n = omega arith in rw e at (months_rise y m (n - m))

-- ---- the month of a day

-- What `months_over` counts of the first n months: the last one over is over, and the next, if it is one of them, is not.
record IsMonthsOver (y : ℤ) (p n m : ℕ) : Type 0 where
  over : days_of_months y m ≤ p
  among : m ≤ n
  next : m < n → p < days_of_months y (m + 1)

months_over_is : (y : ℤ) (p n : ℕ) → IsMonthsOver y p n (months_over y p n)
unfolding months_over
months_over_is y p zero = record { over = omega (arith, days_of_months-zero y); among = omega arith; next = λ h. absurd (omega arith) }
months_over_is y p (suc n) =
    let i = months_over_is y p n in
    let m = months_over y p n in
    let back : n + 1 ≡ suc n = omega arith in
    elim (nat_le (days_of_months y (suc n)) p) as (λ b. nat_le (days_of_months y (suc n)) p ≡ b → IsMonthsOver y p (suc n) (m + cond b 1 0)) [
      | true ↦ λ e. (let l : days_of_months y (suc n) ≤ p = grind (arith, nat_tests) in
          let all : m ≡ n = elim (cases_lt m n) [
            | inl lt ↦ absurd (omega (arith, i.next lt, days_of_months_mono y (m + 1) (suc n) (omega arith), l))
            | inr ge ↦ omega (arith, i.among)
          ] in
          let more : m + 1 ≡ suc n = omega arith in
          rw more (record { over = l; among = omega arith; next = λ h. absurd (omega arith) }))
      | false ↦ λ e. (let l : p < days_of_months y (suc n) = grind (arith, nat_tests) in
          let same : m + 0 ≡ m = omega arith in
          rw same (record {
            over = i.over;
            among = omega (arith, i.among);
            next = λ h. elim (cases_lt m n) [
              | inl lt ↦ i.next lt
              | inr ge ↦ (let at : m + 1 ≡ suc n = omega (arith, i.among) in rw at l)
            ];
          }))
    ] refl

-- the month that a day of the year lies in
pub month_is : (y : ℤ) (p m : ℕ) → m < 12 → days_of_months y m ≤ p → p < days_of_months y (m + 1) → months_over y p 11 ≡ m
month_is y p m few over next =
    let i = months_over_is y p 11 in
    let n = months_over y p 11 in
    elim (cases_order n m) [
      | inl same ↦ same
      | inr (inl lt) ↦ absurd (omega (arith, i.next (omega arith), days_of_months_mono y (n + 1) m (omega arith), over))
      | inr (inr gt) ↦ absurd (omega (arith, i.over, days_of_months_mono y (m + 1) n (omega arith), next))
    ]

-- ---- the date of a day

-- the numbers of a date's months and days are those of a place in its year
pub day_number_is : (y : ℤ) (m k : ℕ) → 1 ≤ k → day_number y m k ≡ first_day_of_year y +ℤ pos (days_of_months y (m - 1) + k - 1)
unfolding day_number
day_number_is y m k h = omega (arith, ints)

-- a date's place in its year lies in its month
place_within : (y : ℤ) (m k : ℕ) → IsDate y m k
    → (days_of_months y (m - 1) + k ≤ days_of_months y (m - 1 + 1)) × (days_of_months y (m - 1 + 1) ≤ days_in_year y)
place_within y m k h =
    let e : m - 1 + 1 ≡ m = omega (arith, h.0) in
    let next = rw e at (days_of_months-next y (m - 1)) in
    rw e (omega (arith, next, h.3), omega (arith, days_of_months_mono y m 12 h.1, days_of_months-all y))

-- a date's day lies in its year
pub IsInYear-day_number : (y : ℤ) (m k : ℕ) → IsDate y m k → IsInYear (day_number y m k) y
IsInYear-day_number y m k h =
    let p = place_within y m k h in
    let e = day_number_is y m k h.2 in
    record {
      begun = omega (arith, ints, e);
      not_over = omega (arith, ints, e, first_day_of_year-next y, p.0, p.1, h.2);
    }

-- The date of a day is the one that it is the number of.
module _ (y : ℤ) (m k : ℕ) (h : IsDate y m k) where
  pub year_of-day_number : year_of (day_number y m k) ≡ y
  year_of-day_number = year_of_is (day_number y m k) y (IsInYear-day_number y m k h)

  pub days_into_year-day_number : days_into_year (day_number y m k) ≡ days_of_months y (m - 1) + k - 1
  days_into_year-day_number =
      omega (arith, ints, days_into_year_is (day_number y m k), ap first_day_of_year year_of-day_number, day_number_is y m k h.2)

  months_over-day_number : months_over y (days_into_year (day_number y m k)) 11 ≡ m - 1
  months_over-day_number =
      let p = place_within y m k h in
      month_is y (days_into_year (day_number y m k)) (m - 1) (omega (arith, h.1)) (omega (arith, days_into_year-day_number, h.2))
      (omega (arith, days_into_year-day_number, h.2, p.0))

  pub month_of-day_number : month_of (day_number y m k) ≡ m
  unfolding month_of
  month_of-day_number = rw year_of-day_number (omega (arith, months_over-day_number, h.0))

  pub day_of_month-day_number : day_of_month (day_number y m k) ≡ k
  unfolding day_of_month
  day_of_month-day_number =
      rw (year_of-day_number, month_of-day_number) (omega (arith, days_into_year-day_number, h.2))

-- dates with one day number are one date
pub day_number_injective : (y z : ℤ) (m k n j : ℕ) → IsDate y m k → IsDate z n j → day_number y m k ≡ day_number z n j → (y ≡ z) × (m ≡ n) × (k ≡ j)
day_number_injective y z m k n j h i e = (
  sym (year_of-day_number y m k h) ∙ ap year_of e ∙ year_of-day_number z n j i,
  sym (month_of-day_number y m k h) ∙ ap month_of e ∙ month_of-day_number z n j i,
  sym (day_of_month-day_number y m k h) ∙ ap day_of_month e ∙ day_of_month-day_number z n j i,
)

-- what is left of the days into the year once the months over are taken
month_place : (d : ℤ) → (month_of d - 1 < 12) × (days_of_months (year_of d) (month_of d - 1) ≤ days_into_year d)
    × (days_into_year d < days_of_months (year_of d) (month_of d - 1) + days_in_month (year_of d) (month_of d))
unfolding month_of
month_place d =
    let y = year_of d in
    let p = days_into_year d in
    let n = months_over y p 11 in
    let i = months_over_is y p 11 in
    let back : n + 1 - 1 ≡ n = omega arith in
    let below : p < days_of_months y (n + 1) = elim (cases_lt n 11) [
      | inl lt ↦ i.next lt
      | inr ge ↦ (let e : n + 1 ≡ 12 = omega (arith, i.among) in rw e (omega (arith, days_into_year_below d, days_of_months-all y)))
    ] in
    rw back (omega (arith, i.among), i.over, omega (arith, below, days_of_months-next y n))

month_bounds : (d : ℤ) → (1 ≤ month_of d) × (month_of d ≤ 12)
unfolding month_of
month_bounds d = let i = months_over_is (year_of d) (days_into_year d) 11 in (omega arith, omega (arith, i.among))

day_of_month_is : (d : ℤ) → day_of_month d + days_of_months (year_of d) (month_of d - 1) ≡ days_into_year d + 1
unfolding day_of_month
day_of_month_is d = omega (arith, (month_place d).1)

-- each day has a date
pub IsDate-year_of : (d : ℤ) → IsDate (year_of d) (month_of d) (day_of_month d)
IsDate-year_of d =
    let b = month_bounds d in
    let p = month_place d in
    (b.0, b.1, omega (arith, day_of_month_is d, p.1), omega (arith, day_of_month_is d, p.2))

-- whose number is the day
pub day_number-year_of : (d : ℤ) → day_number (year_of d) (month_of d) (day_of_month d) ≡ d
day_number-year_of d =
    let h = IsDate-year_of d in
    omega (arith, ints, day_number_is (year_of d) (month_of d) (day_of_month d) h.2, days_into_year_is d, day_of_month_is d)

-- a day's only date
pub date_only : (d y : ℤ) (m k : ℕ) → IsDate y m k → day_number y m k ≡ d → (y ≡ year_of d) × (m ≡ month_of d) × (k ≡ day_of_month d)
date_only d y m k h e =
    day_number_injective y (year_of d) m k (month_of d) (day_of_month d) h (IsDate-year_of d) (e ∙ sym (day_number-year_of d))

pub is_date_is : (y : ℤ) (m k : ℕ) → IsTrue (is_date y m k) ↔ IsDate y m k
is_date_is y m k = (λ e. grind (arith, nat_tests), λ h. grind (arith, nat_tests))

-- ---- weekdays and kinds of year

pub weekday_of_below : (d : ℤ) → weekday_of d < 7
unfolding weekday_of
weekday_of_below d = floor_mod_below (d +ℤ pos 3) 7 (omega arith)

pub kind_of_year_below : (y : ℤ) → kind_of_year y < 14
unfolding kind_of_year
kind_of_year_below y = grind (arith, weekday_of_below (first_day_of_year y))
