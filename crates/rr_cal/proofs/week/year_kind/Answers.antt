use Rattle.std.proofs.Common.{arith, ◌≡◌, ◌∙◌, sym, ap, ◌+◌, cond, true, false, ℤ, pos, ◌+ℤ◌, ◌*ℤ◌, unsigned_abs, w8, w16, w64, to_z, of_z, to_z-of_z}
use Rattle.std.specs.Int.{int_div_euclid, int_rem_euclid}
use Rattle.jiff_core.proofs.SignedLemmas.{signed_arith}
use Rattle.jiff_core.specs.Calendar.{weekday_number, is_leap_year}
use Rattle.jiff_core.proofs.CalendarLemmas.{weekday_number_bound}
use Rattle.jiff_core.specs.Date.{epoch_day, IsYmd}
use Rattle.jiff_core.specs.declared.civil.date.Date.{Date as Plain}
use Rattle.rr_model.specs.Calendar.{kind_of_year}
use Rattle.rr_model.proofs.CalendarLemmas.{kind_of_year_below}
use Rattle.rr_cal.proofs.JiffLemmas.{kind_of_year-jiff}
use Rattle.rr_cal.proofs.week.year_kind.Goals as goal

-- the kind of the year y by 1 January, d, of the same year of the cycle that holds the year 0
kind_by : (y r : ℤ) (d : Plain) → r ≡ int_rem_euclid y (pos 400) → IsYmd (to_z w16 (of_z w16 (to_z w64 (of_z w64 r)))) (pos 1) (pos 1) d
    → kind_of_year y ≡ weekday_number (epoch_day d) + cond (is_leap_year d.year) 7 0
kind_by y r d e made =
    let year_is : to_z w16 (of_z w16 (to_z w64 (of_z w64 r))) ≡ r = omega (arith, signed_arith, e) in
    let year : d.year ≡ r = made.0 ∙ year_is in
    let parts : y ≡ d.year +ℤ (pos 400 *ℤ int_div_euclid y (pos 400)) = omega (arith, signed_arith, year, e) in
    kind_of_year-jiff y (int_div_euclid y (pos 400)) d parts (omega (arith, signed_arith, made.1)) (omega (arith, signed_arith, made.2))

-- the weekday's number, cast
offset_is : (z d : ℤ) → z ≡ pos (weekday_number d) → unsigned_abs (to_z w8 (of_z w8 z)) ≡ weekday_number d
offset_is z d e = omega (arith, signed_arith, e, weekday_number_bound d)

pub returns-then-in_leap_year : goal.returns-then-in_leap_year
returns-then-in_leap_year c =
    let d = c.date-new_year.result in
    let z = c.to_monday_zero_offset-weekday.result in
    let leap : is_leap_year d.year ≡ true = sym c.in_leap_year.ensures ∙ c.if-in_leap_year.true in
    let kind = rw leap at
    (kind_by c.args.year c.rem_euclid.result d (c.rem_euclid.ensures.value
    ∙ ap (λ y. int_rem_euclid y (pos 400)) (to_z-of_z c.ranges.year)) c.date-new_year.ensures) in
    let value : unsigned_abs (to_z w8 (of_z w8 z)) + 7 ≡ kind_of_year c.args.year =
    omega (arith, kind, offset_is z (epoch_day d) (c.to_monday_zero_offset-weekday.ensures.value ∙ ap pos c.weekday.ensures)) in
    record { value = value; below = omega (arith, value, kind_of_year_below c.args.year) }

pub returns-else-in_leap_year : goal.returns-else-in_leap_year
returns-else-in_leap_year c =
    let d = c.date-new_year.result in
    let z = c.to_monday_zero_offset-weekday.result in
    let leap : is_leap_year d.year ≡ false = sym c.in_leap_year.ensures ∙ c.if-in_leap_year.false in
    let kind = rw leap at
    (kind_by c.args.year c.rem_euclid.result d (c.rem_euclid.ensures.value
    ∙ ap (λ y. int_rem_euclid y (pos 400)) (to_z-of_z c.ranges.year)) c.date-new_year.ensures) in
    let value : unsigned_abs (to_z w8 (of_z w8 z)) ≡ kind_of_year c.args.year =
    omega (arith, kind, offset_is z (epoch_day d) (c.to_monday_zero_offset-weekday.ensures.value ∙ ap pos c.weekday.ensures)) in
    record { value = value; below = omega (arith, value, kind_of_year_below c.args.year) }
