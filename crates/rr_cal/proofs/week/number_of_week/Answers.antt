use Rattle.std.proofs.Common.{arith, ◌≡◌, ap, ◌+◌, ◌/◌, ℕ, ℤ, ◌-ℤ◌, unsigned_abs, to_z-of_z}
use Rattle.std.proofs.lemmas.Int.{ints}
use Rattle.rr_model.specs.Calendar.{day_number, days_into_year, year_of}
use Rattle.rr_model.proofs.CalendarLemmas.{days_into_year_is, days_into_year_below, days_in_year_bounds}
use Rattle.rr_model.proofs.WeekLemmas.{day_number-january_1}
use Rattle.rr_cal.proofs.week.number_of_week.Goals as goal

-- the days from 1 January of its year to a day
days_from : (d f : ℤ) (n : ℕ) → f ≡ day_number (year_of d) 1 1 → n ≡ unsigned_abs (d -ℤ f) → n ≡ days_into_year d
days_from d f n first e =
    omega (arith, ints, e, first, day_number-january_1 (year_of d), days_into_year_is d)

days_are : (c : goal.After-abs_diff) → c.abs_diff.result ≡ days_into_year c.args.fourth
days_are c =
    days_from c.args.fourth c.args.first c.abs_diff.result c.requires.first
    (rw (to_z-of_z c.ranges.fourth, to_z-of_z c.ranges.first) at c.abs_diff.ensures)

pub overflow_cast-result : goal.overflow_cast-result
overflow_cast-result c =
    omega (arith, days_are c, days_into_year_below c.args.fourth, days_in_year_bounds (year_of c.args.fourth))

pub returns : goal.returns
returns c = ap (λ n. n / 7 + 1) (days_are c)
