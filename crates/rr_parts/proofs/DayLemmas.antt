-- Where a day stands in its month and in its year.
use Rattle.std.proofs.Common.{◌≡◌, ℕ, ◌≤◌, ℤ, arith}
use Rattle.rr_model.specs.Calendar.{year_of, month_of, day_of_month, day_of_year, days_in_month, days_in_year}
use Rattle.rr_model.proofs.CalendarLemmas.{IsDate-year_of, days_into_year_below, days_in_year_bounds}

pub in_month : (d : ℤ) (k many : ℕ) → k ≡ day_of_month d → many ≡ days_in_month (year_of d) (month_of d) → (1 ≤ k) × (k ≤ many)
in_month d k many e f = let h = IsDate-year_of d in (omega (arith, e, h.2), omega (arith, e, f, h.3))

pub in_year : (d : ℤ) (k many : ℕ) → k ≡ day_of_year d → many ≡ days_in_year (year_of d) → (1 ≤ k) × (k ≤ many) × (many ≤ 366)
unfolding day_of_year
in_year d k many e f =
    let long = days_in_year_bounds (year_of d) in
    (omega (arith, e), omega (arith, e, f, days_into_year_below d), omega (arith, f, long.1))
