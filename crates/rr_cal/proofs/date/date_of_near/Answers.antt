use Rattle.std.proofs.Common.{arith, ◌≡◌, ◌∙◌, pos, ◌+ℤ◌, ◌*ℤ◌, to_z, of_z, w16, w64}
use Rattle.std.proofs.lemmas.Result.{IfOk-at_ok}
use Rattle.jiff_core.specs.Date.{epoch_day}
use Rattle.jiff_core.proofs.SignedLemmas.{signed_arith}
use Rattle.rr_model.proofs.CalendarLemmas.{date_only}
use Rattle.rr_cal.proofs.JiffLemmas.{IsDate-moved, day_number-moved}
use Rattle.rr_cal.proofs.date.date_of_near.Goals as goal

pub overflow_mul-result : goal.overflow_mul-result
overflow_mul-result c = omega (arith, signed_arith, c.div_euclid-cycle.ensures, c.requires.near)

pub overflow_add-result : goal.overflow_add-result
overflow_add-result c =
    omega (arith, signed_arith, c.div_euclid-cycle.ensures, c.requires.near, c.unwrap-inner.result.year_in)

pub returns-clause-date : goal.returns-clause-date
returns-clause-date c =
    let a = c.unwrap-inner.result.year in
    let q = c.div_euclid-cycle.result in
    let year : to_z w64 (of_z w64 (to_z w64 (of_z w64 (to_z w16 (of_z w16 a))) +ℤ to_z w64 (of_z w64 (pos 400 *ℤ to_z w64 (of_z w64 q)))))
    ≡ a +ℤ (pos 400 *ℤ q) =
    omega (arith, signed_arith, c.div_euclid-cycle.ensures, c.requires.near, c.unwrap-inner.result.year_in) in
    rw year (IsDate-moved c.unwrap-inner.result q)

pub returns-clause-number : goal.returns-clause-number
returns-clause-number c =
    let a = c.unwrap-inner.result.year in
    let q = c.div_euclid-cycle.result in
    let year : to_z w64 (of_z w64 (to_z w64 (of_z w64 (to_z w16 (of_z w16 a))) +ℤ to_z w64 (of_z w64 (pos 400 *ℤ to_z w64 (of_z w64 q)))))
    ≡ a +ℤ (pos 400 *ℤ q) =
    omega (arith, signed_arith, c.div_euclid-cycle.ensures, c.requires.near, c.unwrap-inner.result.year_in) in
    let made = IfOk-at_ok _ c.unwrap-inner.ensures c.from_unix_epoch_day.ensures.value in
    let back : epoch_day c.unwrap-inner.result +ℤ (pos 146_097 *ℤ q) ≡ c.args.day =
    omega (arith, signed_arith, made, c.div_euclid-cycle.ensures, c.rem_euclid-rest.ensures.value, c.requires.near) in
    rw year (day_number-moved c.unwrap-inner.result q ∙ back)

pub returns-clause-year : goal.returns-clause-year
returns-clause-year c =
    (date_only c.args.day _ _ _ (returns-clause-date c) (returns-clause-number c)).0

pub returns-clause-month : goal.returns-clause-month
returns-clause-month c =
    (date_only c.args.day _ _ _ (returns-clause-date c) (returns-clause-number c)).1

pub returns-clause-day : goal.returns-clause-day
returns-clause-day c =
    (date_only c.args.day _ _ _ (returns-clause-date c) (returns-clause-number c)).2
