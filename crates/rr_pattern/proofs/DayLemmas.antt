-- Where a day stands in its month, and the last day that a range allows.
use Rattle.std.proofs.Common.{◌≡◌, ℕ, ◌≤◌, ◌<◌, ℤ, pos, ◌≤ℤ◌, arith}
use Rattle.std.proofs.lemmas.Int.{ints}
use Rattle.rr_model.specs.Calendar.{year_of, month_of, day_of_month, days_in_month, weekday_of}
use Rattle.rr_model.proofs.CalendarLemmas.{IsDate-year_of, days_in_month_bounds, weekday_of_below}
use Rattle.rr_model.specs.Graph.Occurrences.{last_day_of}
use Rattle.rr_model.specs.declared.graph.RangeEnd.{RangeEnd}
use Rattle.rr_model.specs.declared.graph.RangeEnd.TheVariants.{NoEnd, EndDate, Numbered}

pub in_month : (d : ℤ) (k many : ℕ) → k ≡ day_of_month d → many ≡ days_in_month (year_of d) (month_of d) → (1 ≤ k) × (k ≤ many) × (many ≤ 31)
in_month d k many e f = let h = IsDate-year_of d in
    (omega (arith, e, h.2), omega (arith, e, f, h.3), omega (arith, f, (days_in_month_bounds (year_of d) (month_of d)).1))

pub is_weekday : (d : ℤ) (w : ℕ) → w ≡ weekday_of d → w < 7
is_weekday d w e = omega (arith, e, weekday_of_below d)

pub last_day_high : (end : RangeEnd) → last_day_of end ≤ℤ pos 2_932_896
last_day_high NoEnd = omega (arith, ints)
last_day_high (EndDate last) = grind (arith, ints)
last_day_high (Numbered n) = omega (arith, ints)
