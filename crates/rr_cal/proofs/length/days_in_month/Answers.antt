use Rattle.std.proofs.Common.{arith, ◌≡◌, ◌∙◌, ap, ℕ, ℤ, pos, ◌+ℤ◌, ◌*ℤ◌, w8, w16, w64, to_z, of_z, nat_abs, refl}
use Rattle.std.proofs.lemmas.Int.{to_z_pos}
use Rattle.std.specs.Int.{int_div_euclid}
use Rattle.jiff_core.proofs.SignedLemmas.{signed_arith}
use Rattle.jiff_core.specs.Date.{month_length as length_of_month}
use Rattle.jiff_core.specs.declared.civil.date.Date.{Date as Plain}
use Rattle.rr_model.specs.Calendar.{days_in_month}
use Rattle.rr_model.proofs.CalendarLemmas.{days_in_month_bounds}
use Rattle.rr_model.proofs.CycleLemmas.{days_in_month-cycle}
use Rattle.rr_cal.proofs.JiffLemmas.{days_in_month-jiff}
use Rattle.rr_cal.proofs.length.days_in_month.Goals as goal

-- the month of the same name in the cycle that holds the year 0 is as long
length_is : (y q : ℤ) (m : ℕ) (d : Plain) → y ≡ d.year +ℤ (pos 400 *ℤ q) → d.month ≡ m → length_of_month d ≡ days_in_month y m
length_is y q m d year month =
    let same : days_in_month y m ≡ days_in_month d.year m = ap (λ z. days_in_month z m) year ∙ days_in_month-cycle d.year q m in
    rw (same, days_in_month-jiff d.year m, month) refl

cast_is : (y : ℤ) (m : ℕ) (z : ℤ) → z ≡ pos (days_in_month y m) → nat_abs (to_z w8 (of_z w8 z)) ≡ days_in_month y m
cast_is y m z e = omega (arith, signed_arith, e, days_in_month_bounds y m)

pub returns : goal.returns
returns c =
    let y = c.args.year in
    let m = c.args.month in
    let q = int_div_euclid y (pos 400) in
    let d = c.date-first.result in
    let made = c.date-first.ensures in
    let year_is : to_z w16 (of_z w16 (to_z w64 (of_z w64 c.rem_euclid.result))) ≡ c.rem_euclid.result =
    omega (arith, signed_arith, c.rem_euclid.ensures.value) in
    let year : d.year ≡ c.rem_euclid.result = made.0 ∙ year_is in
    let parts : y ≡ d.year +ℤ (pos 400 *ℤ q) = omega (arith, signed_arith, year, c.rem_euclid.ensures.value) in
    let month_is : pos d.month ≡ pos m = made.1 ∙ to_z_pos w8 m (omega (arith, c.requires.high)) in
    let month : d.month ≡ m = omega (arith, signed_arith, month_is) in
    cast_is y m c.days_in_month.result (c.days_in_month.ensures ∙ ap pos (length_is y q m d parts month))
