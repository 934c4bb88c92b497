-- How far the years and the weeks of the calls go.
use Rattle.std.proofs.Common.{◌≡◌, ℕ, ◌≤◌, ℤ, pos, neg_ℤ, ◌+ℤ◌, ◌-ℤ◌, ◌*ℤ◌, ◌≤ℤ◌, refl, arith}
use Rattle.std.proofs.lemmas.Int.{ints}
use Rattle.rr_model.specs.Calendar.{IsDayWithin, year_of}
use Rattle.rr_model.specs.Calendar.Week.{fourth_day}
use Rattle.rr_model.proofs.CalendarLemmas.{IsInYear-year_of, first_day_of_year_bounds}

-- the year of a day within the calls' days
pub year_bounds : (d : ℤ) → IsDayWithin 1000 d → (neg_ℤ (pos 9_000_000_000) ≤ℤ year_of d) × (year_of d ≤ℤ pos 9_000_000_000)
year_bounds d near =
    let y = year_of d in
    let i = IsInYear-year_of d in
    let this = first_day_of_year_bounds y in
    let next = first_day_of_year_bounds (y +ℤ pos 1) in
    (omega (arith, ints, i.not_over, near.0, next.1), omega (arith, ints, i.begun, near.1, this.0))

pub year_near : (d y : ℤ) → y ≡ year_of d → IsDayWithin 1000 d → (neg_ℤ (pos 9_000_000_000) ≤ℤ y) × (y ≤ℤ pos 9_000_000_000)
year_near d y e near = rw e (year_bounds d near)

-- a week within the calls' days
pub week_near : (u : ℤ) (w : ℕ) → w ≤ 255 → IsDayWithin 1000 (fourth_day u w -ℤ pos 3) → (neg_ℤ (pos 500_000_000_000) ≤ℤ u) × (u ≤ℤ pos 500_000_000_000)
unfolding fourth_day
week_near u w few near = (omega (arith, ints, near.0), omega (arith, ints, near.1))

pub first_day_of_week_is : (u : ℤ) (w : ℕ) → fourth_day u w -ℤ pos 3 ≡ ((pos 7 *ℤ u) +ℤ pos w) -ℤ pos 3
unfolding fourth_day
first_day_of_week_is u w = refl
