use Rattle.std.proofs.Common.{arith}
use Rattle.rr_model.proofs.CalendarLemmas.{IsDate-year_of}
use Rattle.rr_cal.proofs.day.Day.next.Goals as goal

pub first_of_next_month-requires-clause-last : goal.first_of_next_month-requires-clause-last
first_of_next_month-requires-clause-last c =
    let day = c.args.self.now in
    omega (arith, c.if-self.false, day.of_day_of_month, day.of_days_in_month, (IsDate-year_of day.number).3)

pub first_of_next_year-requires-clause-last_day : goal.first_of_next_year-requires-clause-last_day
first_of_next_year-requires-clause-last_day c =
    let day = c.args.self.now in
    omega (arith, c.if-self.false, day.of_day_of_month, day.of_days_in_month, (IsDate-year_of day.number).3)

pub first_of_next_year-requires-clause-last_month : goal.first_of_next_year-requires-clause-last_month
first_of_next_year-requires-clause-last_month c =
    let day = c.args.self.now in
    omega (arith, c.if-self-lt12.false, day.of_month, (IsDate-year_of day.number).1)
