use Rattle.std.proofs.Common.{arith}
use Rattle.rr_parts.proofs.DayLemmas.{in_month}
use Rattle.rr_expand.proofs.left_out.day_after.Goals as goal

pub overflow_sub-day : goal.overflow_sub-day
overflow_sub-day c = let day = c.args.day.now in (in_month day.number _ _ day.of_day_of_month day.of_days_in_month).1

pub day_after_in_month-requires-clause-inside : goal.day_after_in_month-requires-clause-inside
day_after_in_month-requires-clause-inside c =
    let day = c.args.day.now in
    omega (arith, c.if-days-day.true, (in_month day.number _ _ day.of_day_of_month day.of_days_in_month).1)
