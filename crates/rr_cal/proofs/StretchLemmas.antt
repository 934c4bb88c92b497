-- Each unit of a frequency is a stretch of moments, from its first one up to the first one of the next unit.
use Rattle.std.proofs.Common.{◌≡◌, ◌↔◌, inl, inr, ℕ, ◌+◌, ◌-◌, ◌<◌, ℤ, pos, nat_abs, ◌+ℤ◌, ◌-ℤ◌, ◌*ℤ◌, ◌≤ℤ◌, ◌<ℤ◌, ap, ◌∙◌, arith}
use Rattle.std.proofs.lemmas.Int.{ints}
use Rattle.std.proofs.lemmas.Bool.{cases_lt}
use Rattle.rr_model.specs.Whole.{floor_div, floor_mod}
use Rattle.rr_model.specs.Calendar.{year_of, month_of, day_of_month, days_of_months, first_day_of_year, IsDate}
use Rattle.rr_model.specs.Calendar.Week.{week_index, fourth_day}
use Rattle.rr_model.specs.Moment.{day_part, moment_at}
use Rattle.rr_model.specs.Moment.Units.{month_number, first_day_of_month, UnitsAreStretches}
use Rattle.rr_model.specs.declared.kind.Kind.{Kind}
use Rattle.rr_model.specs.declared.kind.Kind.TheVariants.{Days, Moments}
use Rattle.rr_model.specs.declared.rule.Freq.TheVariants.{Secondly, Minutely, Hourly, Daily, Weekly, Monthly, Yearly}
use Rattle.rr_model.proofs.WholeLemmas.{floor_only, floor_whole, floor_mod_below}
use Rattle.rr_model.proofs.FloorLemmas.{*ℤ-add}
use Rattle.rr_model.proofs.CalendarLemmas.{first_day_of_year-next, IsInYear-year_of, year_of_is, days_of_months-next, days_of_months-all}
use Rattle.rr_model.proofs.CalendarLemmas.{days_of_months-zero, day_number_is, IsDate-year_of, day_number-year_of, date_only}

-- ---- months

-- the month after p months of a year begins when these are over
pub month_start : (n y : ℤ) (p : ℕ) → p < 12 → n ≡ (y *ℤ pos 12) +ℤ pos p → first_day_of_month n ≡ first_day_of_year y +ℤ pos (days_of_months y p)
month_start n y p low e =
    let o = floor_only n y 12 p low e in
    let back : p + 1 - 1 ≡ p = omega arith in
    rw (o.0, o.1) (omega (arith, ints, day_number_is y (p + 1) 1 (omega arith), ap (days_of_months y) back))

-- and ends when one more is over
pub month_end : (n y : ℤ) (p : ℕ) → p < 12 → n ≡ (y *ℤ pos 12) +ℤ pos p
    → first_day_of_month (n +ℤ pos 1) ≡ first_day_of_year y +ℤ pos (days_of_months y (p + 1))
month_end n y p low e =
    elim (cases_lt (p + 1) 12) [
      | inl lt ↦ month_start (n +ℤ pos 1) y (p + 1) lt (omega (arith, ints))
      | inr ge ↦ (let last : p + 1 ≡ 12 = omega arith in
          month_start (n +ℤ pos 1) (y +ℤ pos 1) 0 (omega arith) (omega (arith, ints))
          ∙ omega (arith, ints, first_day_of_year-next y, days_of_months-zero (y +ℤ pos 1), days_of_months-all y, ap (days_of_months y) last))
    ]

module _ (d n : ℤ) where
  month_holds : month_number d ≡ n → (first_day_of_month n ≤ℤ d) × (d <ℤ first_day_of_month (n +ℤ pos 1))
  month_holds e =
      let y = year_of d in
      let m = month_of d in
      let date = IsDate-year_of d in
      let f : n ≡ (y *ℤ pos 12) +ℤ pos (m - 1) = omega (arith, ints, date.0) in
      let low : m - 1 < 12 = omega (arith, date.0, date.1) in
      let place = day_number_is y m (day_of_month d) date.2 in
      let next : m - 1 + 1 ≡ m = omega (arith, date.0) in
      let grown = rw next at (days_of_months-next y (m - 1)) in (
        omega (arith, ints, month_start n y (m - 1) low f, place, day_number-year_of d, date.2),
        omega (arith, ints, month_end n y (m - 1) low f, ap (days_of_months y) next, grown, place, day_number-year_of d, date.2, date.3),
      )

  month_lies : (first_day_of_month n ≤ℤ d) × (d <ℤ first_day_of_month (n +ℤ pos 1)) → month_number d ≡ n
  month_lies h =
      let y = floor_div n 12 in
      let p = floor_mod n 12 in
      let low = floor_mod_below n 12 (omega arith) in
      let whole = floor_whole n 12 (omega arith) in
      let a = month_start n y p low whole in
      let b = month_end n y p low whole in
      let k = nat_abs (d -ℤ first_day_of_month n) + 1 in
      let back : p + 1 - 1 ≡ p = omega arith in
      let date : IsDate y (p + 1) k = (omega arith, omega arith, omega arith, omega (arith, ints, a, b, h.0, h.1, days_of_months-next y p)) in
      let o = date_only d y (p + 1) k date (day_number_is y (p + 1) k (omega arith) ∙ omega (arith, ints, a, h.0, ap (days_of_months y) back)) in
      omega (arith, ints, whole, o.0, o.1)

-- ---- days, and the moments of days

-- a moment lies on days from one on and up to another if it lies between their first moments
on_days : (kind : Kind) (t a b : ℤ) → ((a ≤ℤ day_part kind t) × (day_part kind t <ℤ b)) ↔ ((moment_at kind a 0 ≤ℤ t) × (t <ℤ moment_at kind b 0))
on_days Days t a b = (λ h. h, λ h. h)
on_days Moments t a b =
    let w = floor_whole t 86_400 (omega arith) in
    let r = floor_mod_below t 86_400 (omega arith) in
    (λ h. (omega (arith, ints, w, r, h.0), omega (arith, ints, w, r, h.1)), λ h. (omega (arith, ints, w, r, h.0), omega (arith, ints, w, r, h.1)))

-- a unit of whole days
by_days : (kind : Kind) (t a b : ℤ) (P : Type 0) → P ↔ ((a ≤ℤ day_part kind t) × (day_part kind t <ℤ b))
    → P ↔ ((moment_at kind a 0 ≤ℤ t) × (t <ℤ moment_at kind b 0))
by_days kind t a b P h = (λ p. (on_days kind t a b).0 (h.0 p), λ q. h.1 ((on_days kind t a b).1 q))

-- a unit of n seconds
by_seconds : (t u : ℤ) (n : ℕ) → 0 < n → (floor_div t n ≡ u) ↔ (((u *ℤ pos n) ≤ℤ t) × (t <ℤ ((u +ℤ pos 1) *ℤ pos n)))
by_seconds t u n h =
    let w = floor_whole t n h in
    let r = floor_mod_below t n h in
    let next = *ℤ-add u (pos 1) n in (
      λ e. (omega (arith, ints, w, ap (λ q. q *ℤ pos n) e), omega (arith, ints, w, r, next, ap (λ q. q *ℤ pos n) e)),
      λ l. (floor_only t u n (nat_abs (t -ℤ (u *ℤ pos n))) (omega (arith, ints, l.0, l.1, next)) (omega (arith, ints, l.0))).0,
    )

week_stretch : (d u : ℤ) (w : ℕ) → (week_index d w ≡ u) ↔ (((fourth_day u w -ℤ pos 3) ≤ℤ d) × (d <ℤ (fourth_day (u +ℤ pos 1) w -ℤ pos 3)))
unfolding week_index fourth_day
week_stretch d u w =
    let z = (d +ℤ pos 3) -ℤ pos w in
    let a = floor_whole z 7 (omega arith) in
    let b = floor_mod_below z 7 (omega arith) in
    (λ e. (omega (arith, ints, a, b, e), omega (arith, ints, a, b, e)), λ h. omega (arith, ints, a, b, h.0, h.1))

year_stretch : (d u : ℤ) → (year_of d ≡ u) ↔ ((first_day_of_year u ≤ℤ d) × (d <ℤ first_day_of_year (u +ℤ pos 1)))
year_stretch d u =
    let i = IsInYear-year_of d in (
      λ e. (omega (arith, ints, i.begun, ap first_day_of_year e), omega (arith, ints, i.not_over, ap (λ y. first_day_of_year (y +ℤ pos 1)) e)),
      λ h. year_of_is d u (record { begun = h.0; not_over = h.1 }),
    )

pub units_are_stretches : UnitsAreStretches
units_are_stretches Secondly w kind t u = (λ e. (omega (arith, ints, e), omega (arith, ints, e)), λ h. omega (arith, ints, h.0, h.1))
units_are_stretches Minutely w kind t u = by_seconds t u 60 (omega arith)
units_are_stretches Hourly w kind t u = by_seconds t u 3_600 (omega arith)
units_are_stretches Daily w kind t u =
    by_days kind t u (u +ℤ pos 1) (day_part kind t ≡ u) (λ e. (omega (arith, ints, e), omega (arith, ints, e)), λ h. omega (arith, ints, h.0, h.1))
units_are_stretches Weekly w kind t u =
    by_days kind t (fourth_day u w -ℤ pos 3) (fourth_day (u +ℤ pos 1) w -ℤ pos 3) (week_index (day_part kind t) w ≡ u) (week_stretch (day_part kind t) u w)
units_are_stretches Monthly w kind t u =
    by_days kind t (first_day_of_month u) (first_day_of_month (u +ℤ pos 1)) (month_number (day_part kind t) ≡ u) (
      month_holds (day_part kind t) u,
      month_lies (day_part kind t) u,
    )
units_are_stretches Yearly w kind t u =
    by_days kind t (first_day_of_year u) (first_day_of_year (u +ℤ pos 1)) (year_of (day_part kind t) ≡ u) (year_stretch (day_part kind t) u)
