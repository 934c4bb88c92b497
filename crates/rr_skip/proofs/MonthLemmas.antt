-- Months by their numbers: how near their first days are, and which days they have.
use Rattle.std.proofs.Common.{◌≡◌, ◌↔◌, ◌-◌, ◌≤◌, ℤ, pos, neg_ℤ, ◌+ℤ◌, ◌-ℤ◌, ◌≤ℤ◌, ◌<ℤ◌, refl, arith}
use Rattle.std.proofs.lemmas.Int.{ints}
use Rattle.rr_model.specs.Whole.{floor_div, floor_mod}
use Rattle.rr_model.specs.Calendar.{days_in_month, year_of, month_of, day_of_month}
use Rattle.rr_model.specs.Moment.Units.{month_number, first_day_of_month}
use Rattle.rr_model.specs.declared.kind.Kind.TheVariants.{Days}
use Rattle.rr_model.specs.declared.rule.Freq.TheVariants.{Monthly}
use Rattle.rr_model.proofs.WholeLemmas.{floor_only, floor_whole, floor_mod_below}
use Rattle.rr_model.proofs.CalendarLemmas.{first_day_of_year_bounds, IsInYear-year_of, days_in_year_bounds, days_of_months_mono, days_of_months-all}
use Rattle.rr_model.proofs.CalendarLemmas.{days_in_month_bounds, IsDate-year_of, day_number-year_of, day_number_is}
use Rattle.rr_cal.proofs.StretchLemmas.{month_start, units_are_stretches}
use Rattle.rr_cal.proofs.DayUnitLemmas.{month_next}
use Rattle.rr_skip.specs.Months.{length_of_month, month_of_year}
use Rattle.rr_skip.specs.NearMonths.{IsNearMonth}

-- ---- how near

-- a near month begins on a near day
pub near_first : (n : ℤ) → IsNearMonth n → (neg_ℤ (pos 400_000_000) ≤ℤ first_day_of_month n) × (first_day_of_month n ≤ℤ pos 400_000_000)
near_first n near =
    let y = floor_div n 12 in
    let p = floor_mod n 12 in
    let low = floor_mod_below n 12 (omega arith) in
    let w = floor_whole n 12 (omega arith) in
    let s = month_start n y p low w in
    let b = first_day_of_year_bounds y in
    let m = days_of_months_mono y p 12 (omega (arith, low)) in
    let a = days_of_months-all y in
    let l = days_in_year_bounds y in
    (omega (arith, ints, s, b.0, w, low, near.0), omega (arith, ints, s, b.1, w, low, near.1, m, a, l.1))

-- a day of these years lies in a near month
pub month_near : (d : ℤ) → neg_ℤ (pos 719_200) ≤ℤ d → d ≤ℤ pos 40_000_000
    → (neg_ℤ (pos 9_000_000) ≤ℤ month_number d) × (month_number d ≤ℤ pos 9_000_000)
month_near d low high =
    let i = IsInYear-year_of d in
    let a = first_day_of_year_bounds (year_of d) in
    let b = first_day_of_year_bounds (year_of d +ℤ pos 1) in
    let m = IsDate-year_of d in
    (omega (arith, ints, i.not_over, b.1, low, m.0), omega (arith, ints, i.begun, a.0, high, m.1))

-- ---- a month and its days

-- a month ends when its days are over
pub month_ends : (n : ℤ) → first_day_of_month (n +ℤ pos 1) ≡ first_day_of_month n +ℤ pos (length_of_month n)
month_ends n = month_next n

pub length_bounds : (n : ℤ) → (28 ≤ length_of_month n) × (length_of_month n ≤ 31)
length_bounds n = days_in_month_bounds (floor_div n 12) (month_of_year n)

-- the days of a month are those from its first one on, up to that of the next
pub in_month : (d n : ℤ) → (month_number d ≡ n) ↔ ((first_day_of_month n ≤ℤ d) × (d <ℤ first_day_of_month (n +ℤ pos 1)))
in_month d n = units_are_stretches Monthly 0 Days d n

-- the first day of a month lies in it
pub first_in_month : (n : ℤ) → month_number (first_day_of_month n) ≡ n
first_in_month n = (in_month (first_day_of_month n) n).1 (omega (arith, ints), omega (arith, ints, month_ends n, length_bounds n))

-- a month's year, its number there, and a day's offset in it
pub year_of_month : (d : ℤ) → floor_div (month_number d) 12 ≡ year_of d
year_of_month d =
    let date = IsDate-year_of d in
    (floor_only (month_number d) (year_of d) 12 (month_of d - 1) (omega (arith, date.0, date.1)) (omega (arith, ints, date.0))).0

pub month_in_year : (d : ℤ) → month_of_year (month_number d) ≡ month_of d
month_in_year d =
    let date = IsDate-year_of d in
    let o = floor_only (month_number d) (year_of d) 12 (month_of d - 1) (omega (arith, date.0, date.1)) (omega (arith, ints, date.0)) in
    omega (arith, o.1, date.0)

pub length_of_own : (d : ℤ) → length_of_month (month_number d) ≡ days_in_month (year_of d) (month_of d)
length_of_own d = rw (year_of_month d, month_in_year d) refl

-- how many days the day lies after the first of its month
pub offset_in_month : (d : ℤ) → (d -ℤ first_day_of_month (month_number d)) +ℤ pos 1 ≡ pos (day_of_month d)
offset_in_month d =
    let date = IsDate-year_of d in
    let y = year_of d in
    let p = month_of d - 1 in
    let s = month_start (month_number d) y p (omega (arith, date.0, date.1)) (omega (arith, ints, date.0)) in
    let n = day_number_is y (month_of d) (day_of_month d) date.2 in
    omega (arith, ints, s, n, day_number-year_of d, date.2)
