use Rattle.std.proofs.Common.{arith, ◌≡◌, pos, ◌+ℤ◌, ◌*ℤ◌, to_z, of_z, w8, w16, w64}
use Rattle.std.proofs.lemmas.Int.{to_z_pos}
use Rattle.std.specs.Int.{int_div_euclid}
use Rattle.jiff_core.proofs.SignedLemmas.{signed_arith}
use Rattle.std.proofs.lemmas.Bool.Decides.{same_from_decides}
use Rattle.rr_model.proofs.CalendarLemmas.{is_date_is}
use Rattle.rr_cal.proofs.JiffLemmas.{IsDate-inner}
use Rattle.rr_cal.proofs.date.valid.Goals as goal

pub returns-clause-date : goal.returns-clause-date
returns-clause-date c =
    let y = c.args.year in
    let q = int_div_euclid y (pos 400) in
    let r = c.rem_euclid.result in
    let parts : y ≡ r +ℤ (pos 400 *ℤ q) = omega (arith, signed_arith, c.rem_euclid.ensures.value) in
    let year : to_z w16 (of_z w16 (to_z w64 (of_z w64 r))) ≡ r = omega (arith, signed_arith, c.rem_euclid.ensures.value) in
    let month : to_z w8 c.args.month ≡ pos c.args.month = to_z_pos w8 c.args.month (omega (arith, c.if-month-gt12.false)) in
    let day : to_z w8 c.args.day ≡ pos c.args.day = to_z_pos w8 c.args.day (omega (arith, c.if-day-gt31.false)) in
    let both = IsDate-inner y q r c.args.month c.args.day parts (
      omega (arith, signed_arith, c.rem_euclid.ensures.value),
      omega (arith, signed_arith, c.rem_euclid.ensures.value),
    ) in
    let made = rw (year, month, day) at c.new-inner.ensures.succeeds in
    rw c.is_ok.ensures.value (λ ok. both.0 (made.0 ok), λ v. made.1 (both.1 v))

pub returns-clause-test : goal.returns-clause-test
returns-clause-test c = same_from_decides _ _ (returns-clause-date c) (is_date_is c.args.year c.args.month c.args.day)
