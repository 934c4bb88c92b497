-- Units of whole days: the stretch of days that is one, how many days it has, and how near they are.
use Rattle.std.proofs.Common.{◌≡◌, ◌↔◌, ℕ, ◌+◌, ◌≤◌, true, ℤ, pos, ◌+ℤ◌, ◌-ℤ◌, ◌≤ℤ◌, ◌<ℤ◌, sym, ◌∙◌, refl, arith}
use Rattle.std.proofs.lemmas.Int.{ints}
use Rattle.rr_model.specs.Whole.{floor_div, floor_mod}
use Rattle.rr_model.specs.Calendar.{IsDayWithin, days_in_month, days_in_year}
use Rattle.rr_model.specs.Calendar.Week.{fourth_day}
use Rattle.rr_model.specs.Moment.Units.{first_day_of_month, unit_number, unit_start, is_whole_days}
use Rattle.rr_model.specs.declared.kind.Kind.TheVariants.{Days}
use Rattle.rr_model.specs.declared.rule.Freq.{Freq}
use Rattle.rr_model.specs.declared.rule.Freq.TheVariants.{Secondly, Minutely, Hourly, Daily, Weekly, Monthly, Yearly}
use Rattle.rr_model.proofs.WholeLemmas.{floor_whole, floor_mod_below}
use Rattle.rr_model.proofs.CalendarLemmas.{first_day_of_year-next, days_of_months-next, days_in_month_bounds, days_in_year_bounds}
use Rattle.rr_cal.proofs.StretchLemmas.{month_start, month_end, units_are_stretches}

-- a month ends when its days are over
pub month_next : (n : ℤ) → first_day_of_month (n +ℤ pos 1) ≡ first_day_of_month n +ℤ pos (days_in_month (floor_div n 12) (floor_mod n 12 + 1))
month_next n =
    let y = floor_div n 12 in
    let p = floor_mod n 12 in
    let low = floor_mod_below n 12 (omega arith) in
    let whole = floor_whole n 12 (omega arith) in
    month_end n y p low whole ∙ omega (arith, ints, month_start n y p low whole, days_of_months-next y p)

pub week_next : (u : ℤ) (w : ℕ) → fourth_day (u +ℤ pos 1) w -ℤ pos 3 ≡ (fourth_day u w -ℤ pos 3) +ℤ pos 7
unfolding fourth_day
week_next u w = omega (arith, ints)

-- the stretch of days that is a unit
pub in_unit : (freq : Freq) (w : ℕ) (u first d : ℤ) (count : ℕ) → is_whole_days freq ≡ true → first ≡ unit_start freq w Days u
    → unit_start freq w Days (u +ℤ pos 1) ≡ unit_start freq w Days u +ℤ pos count
    → (unit_number freq w Days d ≡ u) ↔ ((first ≤ℤ d) × (d <ℤ (first +ℤ pos count)))
in_unit freq w u first d count coarse begins ends =
    let s = units_are_stretches freq w Days d u in
    (λ e. (rw begins (s.0 e).0, rw (begins, sym ends) (s.0 e).1), λ h. s.1 (rw begins at h.0, rw (begins, sym ends) at h.1))

-- a unit of days has at most 366
pub unit_length : (freq : Freq) (w : ℕ) (u : ℤ) → is_whole_days freq ≡ true
    → (n : ℕ) × (n ≤ 366) × (unit_start freq w Days (u +ℤ pos 1) ≡ unit_start freq w Days u +ℤ pos n)
unit_length Secondly w u coarse = absurd (cc)
unit_length Minutely w u coarse = absurd (cc)
unit_length Hourly w u coarse = absurd (cc)
unit_length Daily w u coarse = (1, omega arith, refl)
unit_length Weekly w u coarse = (7, omega arith, week_next u w)
unit_length Monthly w u coarse =
    (days_in_month (floor_div u 12) (floor_mod u 12 + 1), omega (arith, (days_in_month_bounds (floor_div u 12) (floor_mod u 12 + 1)).1), month_next u)
unit_length Yearly w u coarse = (days_in_year u, omega (arith, (days_in_year_bounds u).1), first_day_of_year-next u)

-- a unit that holds a day of the calls begins and ends within the calls' days
pub unit_near : (freq : Freq) (w : ℕ) (d : ℤ) → is_whole_days freq ≡ true → IsDayWithin 0 d
    → IsDayWithin 1000 (unit_start freq w Days (unit_number freq w Days d)) × IsDayWithin 1000 (unit_start freq w Days (unit_number freq w Days d +ℤ pos 1))
unit_near freq w d coarse near =
    let n = unit_length freq w (unit_number freq w Days d) coarse in
    let s = (units_are_stretches freq w Days d (unit_number freq w Days d)).0 refl in (
      (omega (arith, ints, near.0, s.1, n.1, n.2), omega (arith, ints, near.1, s.0)),
      (omega (arith, ints, near.0, s.1), omega (arith, ints, near.1, s.0, n.1, n.2)),
    )
