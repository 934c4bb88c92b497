use Rattle.std.proofs.Common.{rules, ◌≡◌, ◌∙◌, sym, ◌-ℤ◌, nat_abs, FitsSigned, to_z, of_z, to_z-of_z, w64, arith}
use Rattle.std.proofs.lemmas.Int.{ints}
use Rattle.rr_setpos.specs.Ranks.{first_of_unit}
use Rattle.rr_setpos.proofs.day_counts.days_before.Goals as goal

pub returns-clause-value : goal.returns-clause-value
returns-clause-value c =
    let rule = c.args.rule.now in
    let day = c.args.day.now.number in
    let first = c.first_of_unit-first in
    let fits : FitsSigned w64 first.result = search rules in
    let at : to_z w64 (of_z w64 first.result) ≡ first_of_unit rule day = to_z-of_z fits ∙ first.ensures.value in
    let far : nat_abs (to_z w64 (of_z w64 (to_z w64 (of_z w64 day) -ℤ to_z w64 (of_z w64 first.result)))) ≡ nat_abs (day -ℤ first_of_unit rule day) =
    omega (arith, ints, at, first.ensures.value, first.ensures.begun, first.ensures.not_over, c.requires.near) in
    rw (sym far, sym at) c.days_among.ensures.value
