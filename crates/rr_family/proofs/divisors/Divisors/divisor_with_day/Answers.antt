use Rattle.std.proofs.Common.{sym, subst, ◌∙◌}
use Rattle.std.specs.Int.{IsGcd}
use Rattle.rr_family.specs.Divisors.{units_apart}
use Rattle.rr_model.specs.Moment.Units.{unit_number}
use Rattle.rr_model.specs.declared.kind.Kind.TheVariants.{Days}
use Rattle.rr_family.proofs.DivisorLemmas.{gcd_of_one}
use Rattle.rr_family.proofs.divisors.Divisors.divisor_with_day.Goals as goal

pub returns-then-divisor-eq1 : goal.returns-then-divisor-eq1
returns-then-divisor-eq1 c = gcd_of_one _ _ (sym c.of_unit-divisor.ensures ∙ c.if-divisor-eq1.true)

pub returns : goal.returns
returns c =
    let apart = units_apart (unit_number c.args.freq c.args.week_start Days) c.args.start.now.number c.args.day.now.number in
    subst (λ a. IsGcd a apart c.common_divisor.result) c.of_unit-divisor.ensures
    (subst (λ b. IsGcd c.of_unit-divisor.result b c.common_divisor.result) c.units_apart.ensures c.common_divisor.ensures)
