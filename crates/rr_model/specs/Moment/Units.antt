-- The units of a frequency, numbered over all whole numbers (RFC 5545, section 3.3.10, FREQ, INTERVAL and WKST).
use Rattle.std.specs.Prelude.{◌≡◌, ◌↔◌, Bool, true, false, ℕ, ◌+◌, ℤ, pos, ◌+ℤ◌, ◌-ℤ◌, ◌*ℤ◌, ◌≤ℤ◌, ◌<ℤ◌}
use Rattle.rr_model.specs.Whole.{floor_div, floor_mod}
use Rattle.rr_model.specs.Calendar.{year_of, month_of, first_day_of_year, day_number}
use Rattle.rr_model.specs.Calendar.Week.{week_index, fourth_day}
use Rattle.rr_model.specs.Moment.{day_part, moment_at}
use Rattle.rr_model.specs.declared.kind.Kind.{Kind}
use Rattle.rr_model.specs.declared.rule.Freq.{Freq}
use Rattle.rr_model.specs.declared.rule.Freq.TheVariants.{Secondly, Minutely, Hourly, Daily, Weekly, Monthly, Yearly}

-- the unit is a day or longer
abbrev pub is_whole_days : Freq → Bool
is_whole_days Secondly = false
is_whole_days Minutely = false
is_whole_days Hourly = false
is_whole_days freq = true

-- the number of a day's month
abbrev pub month_number : ℤ → ℤ
month_number d = ((pos 12 *ℤ year_of d) +ℤ pos (month_of d)) -ℤ pos 1

-- the first day of the month of this number
abbrev pub first_day_of_month : ℤ → ℤ
first_day_of_month n = day_number (floor_div n 12) (floor_mod n 12 + 1) 1

-- the number of the second, minute, hour, day, week, month or year in which a moment lies, if weeks begin on the weekday w
abbrev pub unit_number : Freq → ℕ → Kind → ℤ → ℤ
unit_number Secondly w kind t = t
unit_number Minutely w kind t = floor_div t 60
unit_number Hourly w kind t = floor_div t 3_600
unit_number Daily w kind t = day_part kind t
unit_number Weekly w kind t = week_index (day_part kind t) w
unit_number Monthly w kind t = month_number (day_part kind t)
unit_number Yearly w kind t = year_of (day_part kind t)

-- the first moment of the unit of this number
abbrev pub unit_start : Freq → ℕ → Kind → ℤ → ℤ
unit_start Secondly w kind u = u
unit_start Minutely w kind u = u *ℤ pos 60
unit_start Hourly w kind u = u *ℤ pos 3_600
unit_start Daily w kind u = moment_at kind u 0
unit_start Weekly w kind u = moment_at kind (fourth_day u w -ℤ pos 3) 0
unit_start Monthly w kind u = moment_at kind (first_day_of_month u) 0
unit_start Yearly w kind u = moment_at kind (first_day_of_year u) 0

-- The moments of a unit are those from its first one on, up to the first one of the next unit.
abbrev pub UnitsAreStretches : Type 0
UnitsAreStretches = (freq : Freq) (w : ℕ) (kind : Kind) (t u : ℤ)
    → (unit_number freq w kind t ≡ u) ↔ ((unit_start freq w kind u ≤ℤ t) × (t <ℤ unit_start freq w kind (u +ℤ pos 1)))

-- how many seconds a unit shorter than a day has
abbrev pub unit_seconds : Freq → ℕ
unit_seconds Hourly = 3_600
unit_seconds Minutely = 60
unit_seconds freq = 1
