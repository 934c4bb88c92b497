-- Weeks and their years: the week of 28 December is the year's last.
use Rattle.std.proofs.Common.{◌≡◌, ℕ, ◌+◌, ◌/◌, ◌≤◌, ℤ, pos, nat_abs, unsigned_abs, ◌+ℤ◌, ◌-ℤ◌, ◌*ℤ◌, ◌≤ℤ◌, ◌<ℤ◌, refl, ap, arith}
use Rattle.std.proofs.lemmas.Int.{ints}
use Rattle.rr_model.specs.Calendar.{first_day_of_year, day_number, days_into_year, IsDate}
use Rattle.rr_model.specs.Calendar.Week.{week_index, fourth_day, week_year, week_number, last_week}
use Rattle.rr_model.specs.Calendar.Laws.{IsLastWeek}
use Rattle.rr_model.proofs.WholeLemmas.{floor_only, floor_whole, floor_mod_below}
use Rattle.rr_model.proofs.CalendarLemmas.{IsInYear-year_of, year_of_is, days_into_year_is, first_day_of_year-next, days_in_year_bounds, days_of_months-all}
use Rattle.rr_model.proofs.CalendarLemmas.{days_of_months-next, days_of_months-zero}

-- ---- the fourth day of a week

-- a week has the days from three before its fourth day to three after it
pub fourth_day_near : (d : ℤ) (w : ℕ) → (fourth_day (week_index d w) w ≤ℤ (d +ℤ pos 3)) × ((d -ℤ pos 3) ≤ℤ fourth_day (week_index d w) w)
unfolding week_index fourth_day
fourth_day_near d w =
    let z = (d +ℤ pos 3) -ℤ pos w in
    let whole = floor_whole z 7 (omega arith) in
    let below = floor_mod_below z 7 (omega arith) in
    (omega (arith, ints, whole), omega (arith, ints, whole, below))

-- a day's week is the only one whose fourth day is so near
pub week_index_is : (d i : ℤ) (w : ℕ) → fourth_day i w ≤ℤ (d +ℤ pos 3) → (d -ℤ pos 3) ≤ℤ fourth_day i w → week_index d w ≡ i
unfolding week_index fourth_day
week_index_is d i w before after =
    let r = nat_abs ((d +ℤ pos 3) -ℤ ((pos 7 *ℤ i) +ℤ pos w)) in
    (floor_only ((d +ℤ pos 3) -ℤ pos w) i 7 r (omega (arith, ints)) (omega (arith, ints))).0

-- ---- the last week of a year

pub IsDate-january_1 : (y : ℤ) → IsDate y 1 1
IsDate-january_1 y = (omega arith, omega arith, omega arith, omega arith)

pub IsDate-december_28 : (y : ℤ) → IsDate y 12 28
IsDate-december_28 y = (omega arith, omega arith, omega arith, omega arith)

pub day_number-january_1 : (y : ℤ) → day_number y 1 1 ≡ first_day_of_year y
unfolding day_number
day_number-january_1 y = omega (arith, ints, days_of_months-zero y)

pub day_number-december_28 : (y : ℤ) → day_number y 12 28 ≡ first_day_of_year (y +ℤ pos 1) -ℤ pos 4
unfolding day_number
day_number-december_28 y =
    omega (arith, ints, first_day_of_year-next y, days_of_months-all y, days_of_months-next y 11, days_in_year_bounds y)

-- 28 December's week has its fourth day in the last seven days of the year
december_28 : (y : ℤ) (w : ℕ) → ((first_day_of_year (y +ℤ pos 1) -ℤ pos 7) ≤ℤ fourth_day (week_index (day_number y 12 28) w) w)
    × (fourth_day (week_index (day_number y 12 28) w) w <ℤ first_day_of_year (y +ℤ pos 1))
december_28 y w =
    let near = fourth_day_near (day_number y 12 28) w in
    (omega (arith, ints, near.1, day_number-december_28 y), omega (arith, ints, near.0, day_number-december_28 y))

-- so it belongs to the year
pub week_year-december_28 : (y : ℤ) (w : ℕ) → week_year (week_index (day_number y 12 28) w) w ≡ y
unfolding week_year
week_year-december_28 y w =
    let at = december_28 y w in
    year_of_is _ y (record {
      begun = omega (arith, ints, at.0, first_day_of_year-next y, days_in_year_bounds y);
      not_over = at.1;
    })

-- a week's fourth day is its year's first and the days since
fourth_day_place : (y i : ℤ) (w : ℕ) → week_year i w ≡ y → fourth_day i w ≡ first_day_of_year y +ℤ pos (days_into_year (fourth_day i w))
unfolding week_year
fourth_day_place y i w e = rw e at (days_into_year_is (fourth_day i w))

-- a week's number by the first day of its year
pub week_number_is : (y i : ℤ) (w : ℕ) → week_year i w ≡ y → week_number i w ≡ unsigned_abs (fourth_day i w -ℤ first_day_of_year y) / 7 + 1
unfolding week_number
week_number_is y i w e =
    let p : days_into_year (fourth_day i w) ≡ unsigned_abs (fourth_day i w -ℤ first_day_of_year y) = omega (arith, ints, fourth_day_place y i w e) in
    ap (λ n. n / 7 + 1) p

-- of two weeks of one year the later has the greater number
later_week_greater : (a b : ℤ) (w : ℕ) → days_into_year (fourth_day a w) ≤ days_into_year (fourth_day b w) → week_number a w ≤ week_number b w
unfolding week_number
later_week_greater a b w h = omega arith

-- no week of the year is later than that of 28 December
before_last : (y i : ℤ) (w : ℕ) → week_year i w ≡ y → days_into_year (fourth_day i w) ≤ days_into_year (fourth_day (week_index (day_number y 12 28) w) w)
unfolding fourth_day week_year
before_last y i w e =
    let l = week_index (day_number y 12 28) w in
    let h = rw e at (IsInYear-year_of (fourth_day i w)) in
    omega (arith, ints, h.not_over, (december_28 y w).0, fourth_day_place y i w e, fourth_day_place y l w (week_year-december_28 y w))

pub IsLastWeek-last_week : (y : ℤ) (w : ℕ) → IsLastWeek y w (last_week y w)
unfolding last_week
IsLastWeek-last_week y w =
    let l = week_index (day_number y 12 28) w in
    record {
      week = l;
      in_year = week_year-december_28 y w;
      number = refl;
      greatest = λ i e. later_week_greater i l w (before_last y i w e);
    }

-- a year has 52 or 53 weeks
pub last_week_bounds : (y : ℤ) (w : ℕ) → (52 ≤ last_week y w) × (last_week y w ≤ 53)
unfolding last_week week_number
last_week_bounds y w =
    let l = week_index (day_number y 12 28) w in
    let place = fourth_day_place y l w (week_year-december_28 y w) in
    let at = december_28 y w in (
      omega (arith, ints, place, at.0, first_day_of_year-next y, days_in_year_bounds y),
      omega (arith, ints, place, at.1, first_day_of_year-next y, days_in_year_bounds y),
    )

-- a week's number is at least 1, and at most that of the year's last week
pub week_number_bounds : (i : ℤ) (w : ℕ) → (1 ≤ week_number i w) × (week_number i w ≤ last_week (week_year i w) w)
unfolding week_number
week_number_bounds i w = (omega arith, (IsLastWeek-last_week (week_year i w) w).greatest i refl)
