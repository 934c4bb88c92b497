-- How far from a day its week, its month and its year reach.
use Rattle.std.proofs.Common.{ℕ, ◌+◌, ◌≤◌, ℤ, pos, ◌+ℤ◌, ◌-ℤ◌, ◌≤ℤ◌, arith}
use Rattle.std.proofs.lemmas.Int.{ints}
use Rattle.rr_model.specs.Calendar.{day_number, IsDate, IsDayWithin, year_of}
use Rattle.rr_model.specs.Calendar.Week.{week_index, fourth_day}
use Rattle.rr_model.proofs.CalendarLemmas.{IsInYear-year_of, IsInYear-day_number, first_day_of_year-next, days_in_year_bounds}
use Rattle.rr_model.proofs.WeekLemmas.{fourth_day_near}

pub IsDayWithin-wider : (m n : ℕ) (d : ℤ) → m ≤ n → IsDayWithin m d → IsDayWithin n d
IsDayWithin-wider m n d h near = (omega (arith, ints, near.0), omega (arith, ints, near.1))

pub IsDayWithin-moved : (m n : ℕ) (d e : ℤ) → (d -ℤ pos n) ≤ℤ e → e ≤ℤ (d +ℤ pos n) → IsDayWithin m d → IsDayWithin (m + n) e
IsDayWithin-moved m n d e low high near = (omega (arith, ints, near.0, low), omega (arith, ints, near.1, high))

pub IsDayWithin-fourth_day : (n : ℕ) (d : ℤ) (w : ℕ) → IsDayWithin n d → IsDayWithin (n + 3) (fourth_day (week_index d w) w)
IsDayWithin-fourth_day n d w near =
    let at = fourth_day_near d w in
    IsDayWithin-moved n 3 d (fourth_day (week_index d w) w) at.1 at.0 near

-- a date of the same year is at most 365 days away
pub same_year_near : (d : ℤ) (m k : ℕ) → IsDate (year_of d) m k
    → ((d -ℤ pos 365) ≤ℤ day_number (year_of d) m k) × (day_number (year_of d) m k ≤ℤ (d +ℤ pos 365))
same_year_near d m k h =
    let i = IsInYear-year_of d in
    let j = IsInYear-day_number (year_of d) m k h in
    let next = first_day_of_year-next (year_of d) in
    let long = days_in_year_bounds (year_of d) in
    (omega (arith, ints, i.not_over, j.begun, next, long.1), omega (arith, ints, i.begun, j.not_over, next, long.1))

pub IsDayWithin-same_year : (n : ℕ) (d : ℤ) (m k : ℕ) → IsDate (year_of d) m k → IsDayWithin n d → IsDayWithin (n + 365) (day_number (year_of d) m k)
IsDayWithin-same_year n d m k h near =
    let at = same_year_near d m k h in
    IsDayWithin-moved n 365 d (day_number (year_of d) m k) at.0 at.1 near
