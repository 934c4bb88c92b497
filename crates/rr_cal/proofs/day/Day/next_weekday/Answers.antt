use Rattle.std.proofs.Common.{arith, sym}
use Rattle.rr_model.proofs.CalendarLemmas.{weekday_of_below}
use Rattle.rr_cal.proofs.NextDayLemmas.{weekday_of-next, weekday_of-next_week}
use Rattle.rr_cal.proofs.day.Day.next_weekday.Goals as goal

pub returns-then-self-lt6 : goal.returns-then-self-lt6
returns-then-self-lt6 c =
    let day = c.args.self.now in
    omega (arith, day.of_weekday, weekday_of-next day.number (omega (arith, day.of_weekday, c.if-self-lt6.true)))

pub returns-else-self-lt6 : goal.returns-else-self-lt6
returns-else-self-lt6 c =
    let day = c.args.self.now in
    sym (weekday_of-next_week day.number (omega (arith, day.of_weekday, weekday_of_below day.number, c.if-self-lt6.false)))
