use Rattle.rr_family.specs.Divisors.{divisor_of, units_apart}
use Rattle.rr_model.specs.Moment.Units.{unit_number}
use Rattle.rr_model.specs.declared.kind.Kind.TheVariants.{Days}
use Rattle.rr_model.specs.declared.rule.Freq.TheVariants.{Weekly}
use Rattle.rr_family.proofs.DivisorLemmas.{each_week}
use Rattle.rr_family.proofs.divisors.Divisors.weeks_with_day.Goals as goal

pub returns : goal.returns
returns c =
    each_week (divisor_of c.args.self.now Weekly) (λ w. units_apart (unit_number Weekly w Days) c.args.start.now.number c.args.day.now.number) _ _ _ _ _ _ _
    c.divisor_with_day.ensures c.divisor_with_day-2.ensures c.divisor_with_day-3.ensures c.divisor_with_day-4.ensures c.divisor_with_day-5.ensures c.divisor_with_day-6.ensures
    c.divisor_with_day-7.ensures
