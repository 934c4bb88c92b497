-- Units with small numbers begin within the calls' days.
use Rattle.std.proofs.Common.{◌≡◌, ℕ, ◌≤◌, true, ℤ, pos, neg_ℤ, ◌≤ℤ◌, arith}
use Rattle.std.proofs.lemmas.Int.{ints}
use Rattle.rr_model.specs.Whole.{floor_div, floor_mod}
use Rattle.rr_model.specs.Calendar.{IsDayWithin, first_day_of_year}
use Rattle.rr_model.specs.Moment.Units.{is_whole_days, unit_start}
use Rattle.rr_model.specs.declared.kind.Kind.TheVariants.{Days}
use Rattle.rr_model.specs.declared.rule.Freq.{Freq}
use Rattle.rr_model.specs.declared.rule.Freq.TheVariants.{Secondly, Minutely, Hourly, Daily, Weekly, Monthly, Yearly}
use Rattle.rr_model.proofs.WholeLemmas.{floor_whole, floor_mod_below}
use Rattle.rr_model.proofs.CalendarLemmas.{first_day_of_year_bounds, days_of_months-all, days_of_months_mono, days_in_year_bounds}
use Rattle.rr_cal.proofs.StretchLemmas.{month_start}
use Rattle.rr_cal.proofs.UnitLemmas.{first_day_of_week_is}

-- a year not far from the year 0 begins within the calls' days
year_start_near : (y : ℤ) → (neg_ℤ (pos 100_001) ≤ℤ y) × (y ≤ℤ pos 100_001)
    → (neg_ℤ (pos 100_000_000) ≤ℤ first_day_of_year y) × (first_day_of_year y ≤ℤ pos 100_000_000)
year_start_near y few =
    let b = first_day_of_year_bounds y in
    (omega (arith, ints, b.0, few.0), omega (arith, ints, b.1, few.1))

-- so does each unit with a small number
pub unit_start_near : (freq : Freq) (w : ℕ) (u : ℤ) → is_whole_days freq ≡ true → w ≤ 255 → (neg_ℤ (pos 100_000) ≤ℤ u) × (u ≤ℤ pos 100_000)
    → IsDayWithin 1000 (unit_start freq w Days u)
unit_start_near Secondly w u coarse low few = absurd (cc)
unit_start_near Minutely w u coarse low few = absurd (cc)
unit_start_near Hourly w u coarse low few = absurd (cc)
unit_start_near Daily w u coarse low few = (omega (arith, ints, few.0), omega (arith, ints, few.1))
unit_start_near Weekly w u coarse low few = (omega (arith, ints, few.0, first_day_of_week_is u w), omega (arith, ints, few.1, low, first_day_of_week_is u w))
unit_start_near Monthly w u coarse low few =
    let y = floor_div u 12 in
    let p = floor_mod u 12 in
    let below = floor_mod_below u 12 (omega arith) in
    let whole = floor_whole u 12 (omega arith) in
    let at = month_start u y p below whole in
    let near = year_start_near y (omega (arith, ints, whole, below, few.0), omega (arith, ints, whole, below, few.1)) in
    let days = days_of_months_mono y p 12 (omega (arith, below)) in
    (omega (arith, ints, at, near.0), omega (arith, ints, at, near.1, days, days_of_months-all y, days_in_year_bounds y))
unit_start_near Yearly w u coarse low few =
    let near = year_start_near u (omega (arith, ints, few.0), omega (arith, ints, few.1)) in
    (omega (arith, ints, near.0), omega (arith, ints, near.1))
