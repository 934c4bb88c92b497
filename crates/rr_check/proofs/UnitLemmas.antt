-- Shifts by days that carry units onto units, frequency by frequency.
use Rattle.std.proofs.Common.{◌≡◌, ℕ, ◌+◌, ℤ, pos, ◌+ℤ◌, ◌-ℤ◌, ◌*ℤ◌, refl, ap, ◌∙◌, arith}
use Rattle.std.proofs.lemmas.Int.{ints}
use Rattle.rr_model.specs.Whole.{floor_div, floor_mod}
use Rattle.rr_model.specs.Calendar.{year_of, first_day_of_year}
use Rattle.rr_model.specs.Calendar.Week.{week_index, fourth_day}
use Rattle.rr_model.specs.Moment.{day_part, second_part, moment_at}
use Rattle.rr_model.specs.Moment.Units.{month_number, first_day_of_month, unit_number, unit_start}
use Rattle.rr_model.specs.Rule.Repetition.{days_in}
use Rattle.rr_model.specs.declared.kind.Kind.{Kind}
use Rattle.rr_model.specs.declared.kind.Kind.TheVariants.{Days, Moments}
use Rattle.rr_model.specs.declared.rule.Freq.{Freq}
use Rattle.rr_model.specs.declared.rule.Freq.TheVariants.{Secondly, Minutely, Hourly, Daily, Weekly, Monthly, Yearly}
use Rattle.rr_model.proofs.FloorLemmas.{floor_div-add, floor_mod-add}
use Rattle.rr_model.proofs.CycleLemmas.{first_day_of_year-cycle, day_number-cycle, year_of-cycle, month_of-cycle}
use Rattle.rr_check.proofs.WeekShiftLemmas.{week_index-weeks, fourth_day-weeks}

-- ---- a shift by days

pub day_part-shift : (kind : Kind) (t days : ℤ) → day_part kind (t +ℤ days_in kind days) ≡ day_part kind t +ℤ days
day_part-shift Days t days = refl
day_part-shift Moments t days = floor_div-add t days 86_400 (omega arith)

pub second_part-shift : (kind : Kind) (t days : ℤ) → second_part kind (t +ℤ days_in kind days) ≡ second_part kind t
second_part-shift Days t days = refl
second_part-shift Moments t days = floor_mod-add t days 86_400 (omega arith)

moment_at-shift : (kind : Kind) (d e days : ℤ) → e ≡ d +ℤ days → moment_at kind e 0 ≡ moment_at kind d 0 +ℤ days_in kind days
moment_at-shift Days d e days is = is
moment_at-shift Moments d e days is = omega (arith, ints, is)

-- ---- months over cycles of the calendar

pub month_number-cycle : (d c : ℤ) → month_number (d +ℤ (pos 146_097 *ℤ c)) ≡ month_number d +ℤ (pos 4_800 *ℤ c)
month_number-cycle d c = omega (arith, ints, year_of-cycle d c, month_of-cycle d c)

first_day_of_month-cycle : (n c : ℤ) → first_day_of_month (n +ℤ (pos 4_800 *ℤ c)) ≡ first_day_of_month n +ℤ (pos 146_097 *ℤ c)
first_day_of_month-cycle n c =
    let e : n +ℤ (pos 4_800 *ℤ c) ≡ n +ℤ ((pos 400 *ℤ c) *ℤ pos 12) = omega (arith, ints) in
    let y : floor_div (n +ℤ (pos 4_800 *ℤ c)) 12 ≡ floor_div n 12 +ℤ (pos 400 *ℤ c) =
    ap (λ z. floor_div z 12) e ∙ floor_div-add n (pos 400 *ℤ c) 12 (omega arith) in
    let m : floor_mod (n +ℤ (pos 4_800 *ℤ c)) 12 ≡ floor_mod n 12 = ap (λ z. floor_mod z 12) e ∙ floor_mod-add n (pos 400 *ℤ c) 12 (omega arith) in
    rw (y, m) (day_number-cycle (floor_div n 12) c (floor_mod n 12 + 1) 1)

-- ---- days that are whole units

-- A number of days is a number of units: of time in kind Moments alone, and months and years in whole cycles of the calendar.
abbrev pub AreUnits : Freq → Kind → ℤ → ℤ → Type 0
AreUnits Secondly kind days units = (kind ≡ Moments) × (units ≡ days *ℤ pos 86_400)
AreUnits Minutely kind days units = (kind ≡ Moments) × (units ≡ days *ℤ pos 1_440)
AreUnits Hourly kind days units = (kind ≡ Moments) × (units ≡ days *ℤ pos 24)
AreUnits Daily kind days units = units ≡ days
AreUnits Weekly kind days units = days ≡ units *ℤ pos 7
AreUnits Monthly kind days units = (c : ℤ) × ((days ≡ pos 146_097 *ℤ c) × (units ≡ pos 4_800 *ℤ c))
AreUnits Yearly kind days units = (c : ℤ) × ((days ≡ pos 146_097 *ℤ c) × (units ≡ pos 400 *ℤ c))

pub unit_number-shift : (freq : Freq) (w : ℕ) (kind : Kind) (days units : ℤ) → AreUnits freq kind days units → (t : ℤ)
    → unit_number freq w kind (t +ℤ days_in kind days) ≡ unit_number freq w kind t +ℤ units
unit_number-shift Secondly w Days days units are t = absurd (cc (are.0))
unit_number-shift Secondly w Moments days units are t = omega (arith, ints, are.1)
unit_number-shift Minutely w Days days units are t = absurd (cc (are.0))
unit_number-shift Minutely w Moments days units are t =
    let e : t +ℤ (days *ℤ pos 86_400) ≡ t +ℤ (units *ℤ pos 60) = omega (arith, ints, are.1) in
    ap (λ z. floor_div z 60) e ∙ floor_div-add t units 60 (omega arith)
unit_number-shift Hourly w Days days units are t = absurd (cc (are.0))
unit_number-shift Hourly w Moments days units are t =
    let e : t +ℤ (days *ℤ pos 86_400) ≡ t +ℤ (units *ℤ pos 3_600) = omega (arith, ints, are.1) in
    ap (λ z. floor_div z 3_600) e ∙ floor_div-add t units 3_600 (omega arith)
unit_number-shift Daily w kind days units are t = day_part-shift kind t days ∙ omega (arith, ints)
unit_number-shift Weekly w kind days units are t =
    let e : day_part kind (t +ℤ days_in kind days) ≡ day_part kind t +ℤ (units *ℤ pos 7) = omega (arith, ints, day_part-shift kind t days) in
    ap (λ d. week_index d w) e ∙ week_index-weeks (day_part kind t) w units
unit_number-shift Monthly w kind days units are t =
    let e : day_part kind (t +ℤ days_in kind days) ≡ day_part kind t +ℤ (pos 146_097 *ℤ are.0) = omega (arith, ints, are.1.0, day_part-shift kind t days) in
    ap month_number e ∙ month_number-cycle (day_part kind t) are.0 ∙ omega (arith, ints, are.1.1)
unit_number-shift Yearly w kind days units are t =
    let e : day_part kind (t +ℤ days_in kind days) ≡ day_part kind t +ℤ (pos 146_097 *ℤ are.0) = omega (arith, ints, are.1.0, day_part-shift kind t days) in
    ap year_of e ∙ year_of-cycle (day_part kind t) are.0 ∙ omega (arith, ints, are.1.1)

pub unit_start-shift : (freq : Freq) (w : ℕ) (kind : Kind) (days units : ℤ) → AreUnits freq kind days units → (u : ℤ)
    → unit_start freq w kind (u +ℤ units) ≡ unit_start freq w kind u +ℤ days_in kind days
unit_start-shift Secondly w Days days units are u = absurd (cc (are.0))
unit_start-shift Secondly w Moments days units are u = omega (arith, ints, are.1)
unit_start-shift Minutely w Days days units are u = absurd (cc (are.0))
unit_start-shift Minutely w Moments days units are u = omega (arith, ints, are.1)
unit_start-shift Hourly w Days days units are u = absurd (cc (are.0))
unit_start-shift Hourly w Moments days units are u = omega (arith, ints, are.1)
unit_start-shift Daily w kind days units are u = moment_at-shift kind u (u +ℤ units) days (omega (arith, ints))
unit_start-shift Weekly w kind days units are u =
    moment_at-shift kind (fourth_day u w -ℤ pos 3) (fourth_day (u +ℤ units) w -ℤ pos 3) days (omega (arith, ints, fourth_day-weeks u w units))
unit_start-shift Monthly w kind days units are u =
    let e : u +ℤ units ≡ u +ℤ (pos 4_800 *ℤ are.0) = omega (arith, ints, are.1.1) in
    moment_at-shift kind (first_day_of_month u) (first_day_of_month (u +ℤ units)) days (ap first_day_of_month e ∙ first_day_of_month-cycle u are.0
    ∙ omega (arith, ints, are.1.0))
unit_start-shift Yearly w kind days units are u =
    let e : u +ℤ units ≡ u +ℤ (pos 400 *ℤ are.0) = omega (arith, ints, are.1.1) in
    moment_at-shift kind (first_day_of_year u) (first_day_of_year (u +ℤ units)) days (ap first_day_of_year e ∙ first_day_of_year-cycle u are.0
    ∙ omega (arith, ints, are.1.0))
