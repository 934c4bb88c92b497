use Rattle.std.proofs.Common.{arith, rules, ◌≡◌, ◌∙◌, sym, ap, refl, pos, ◌+ℤ◌, ◌*ℤ◌, to_z, of_z, to_z-of_z, w32, w64, FitsSigned}
use Rattle.std.specs.Int.{int_div_euclid}
use Rattle.jiff_core.specs.Date.{epoch_day}
use Rattle.jiff_core.proofs.SignedLemmas.{signed_arith}
use Rattle.rr_model.specs.Calendar.{day_number}
use Rattle.rr_cal.proofs.JiffLemmas.{day_number-moved, year_near_day}
use Rattle.rr_cal.proofs.date.day_of_near.Goals as goal

pub overflow_mul-result : goal.overflow_mul-result
overflow_mul-result c =
    let d = c.args.date in
    let year = year_near_day d.year d.month d.day c.requires.date c.requires.near in
    omega (arith, signed_arith, c.div_euclid-cycle.ensures, year)

pub overflow_add-result : goal.overflow_add-result
overflow_add-result c =
    let d = c.args.date in
    let year = year_near_day d.year d.month d.day c.requires.date c.requires.near in
    omega (arith, signed_arith, c.div_euclid-cycle.ensures, year, c.to_unix_epoch_day.ensures.bound)

pub returns : goal.returns
returns c =
    let d = c.args.date in
    let q = c.div_euclid-cycle.result in
    let e = c.to_unix_epoch_day.result in
    let near = year_near_day d.year d.month d.day c.requires.date c.requires.near in
    let fits : FitsSigned w64 d.year = search rules in
    let turns : int_div_euclid d.year (pos 400) ≡ q = ap (λ y. int_div_euclid y (pos 400)) (sym (to_z-of_z fits)) ∙ sym c.div_euclid-cycle.ensures in
    let sum : to_z w64 (of_z w64 (to_z w64 (of_z w64 (to_z w32 (of_z w32 e))) +ℤ to_z w64 (of_z w64 (pos 146_097 *ℤ to_z w64 (of_z w64 q)))))
    ≡ e +ℤ (pos 146_097 *ℤ q) =
    omega (arith, signed_arith, c.div_euclid-cycle.ensures, near, c.to_unix_epoch_day.ensures.bound) in
    let inner = c.in_first_cycle.result in
    let same : day_number (inner.year +ℤ (pos 400 *ℤ q)) inner.month inner.day ≡ day_number d.year d.month d.day =
    rw (c.in_first_cycle.ensures.month, c.in_first_cycle.ensures.day, rw turns at c.in_first_cycle.ensures.year) refl in
    let epoch : e ≡ epoch_day inner = c.to_unix_epoch_day.ensures.value ∙ ap epoch_day c.to_plain-inner.ensures in
    sum ∙ ap (λ z. z +ℤ (pos 146_097 *ℤ q)) epoch ∙ sym (day_number-moved inner q) ∙ same
