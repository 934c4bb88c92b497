use Rattle.std.proofs.Common.{arith, rules, ◌≡◌, ◌∙◌, pos, ◌+ℤ◌, ◌*ℤ◌, to_z, of_z, w8, w16, w64, FitsSigned}
use Rattle.std.proofs.lemmas.Int.{to_z_pos}
use Rattle.std.specs.Int.{int_div_euclid}
use Rattle.jiff_core.proofs.SignedLemmas.{signed_arith}
use Rattle.rr_model.proofs.CalendarLemmas.{days_in_month_bounds}
use Rattle.rr_cal.proofs.date.in_first_cycle.Goals as goal

pub returns-clause-year : goal.returns-clause-year
returns-clause-year c =
    let r = c.rem_euclid-year.result in
    let y = c.args.date.year in
    let fits : FitsSigned w64 y = search rules in
    let parts : y ≡ r +ℤ (pos 400 *ℤ int_div_euclid y (pos 400)) = omega (arith, signed_arith, c.rem_euclid-year.ensures.value) in
    let inner : to_z w16 (of_z w16 (to_z w64 (of_z w64 r))) ≡ r = omega (arith, signed_arith, c.rem_euclid-year.ensures.value) in
    let year : c.date.result.year ≡ r = c.date.ensures.0 ∙ inner in
    rw year parts

pub returns-clause-month : goal.returns-clause-month
returns-clause-month c =
    let month : pos c.date.result.month ≡ pos c.args.date.month = c.date.ensures.1 ∙ to_z_pos w8 c.args.date.month (omega (arith, c.requires.1)) in
    omega (arith, signed_arith, month)

pub returns-clause-day : goal.returns-clause-day
returns-clause-day c =
    let d = c.args.date in
    let day : pos c.date.result.day ≡ pos d.day = c.date.ensures.2 ∙ to_z_pos w8 d.day (omega (arith, c.requires.3, (days_in_month_bounds d.year d.month).1)) in
    omega (arith, signed_arith, day)
