use Rattle.rr_family.proofs.DivisorLemmas.{joined_units}
use Rattle.rr_family.proofs.divisors.Divisors.with_day.Goals as goal

pub returns : goal.returns
returns c =
    joined_units c.args.self.now _ c.args.start.now.number c.args.day.now.number c.divisor_with_day-days.ensures c.weeks_with_day-weeks.ensures
    c.divisor_with_day-months.ensures c.divisor_with_day-years.ensures
