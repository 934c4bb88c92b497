use Rattle.std.proofs.Common.{arith}
use Rattle.rr_pattern.proofs.DayLemmas.{in_month}
use Rattle.rr_pattern.proofs.days.rank_from_month_end.Goals as goal

pub overflow_sub-day : goal.overflow_sub-day
overflow_sub-day c =
    let day = c.args.day.now in
    let h = in_month day.number _ _ day.of_day_of_month day.of_days_in_month in
    omega (arith, h.0, h.1, h.2)

pub count_days-requires-clause-few : goal.count_days-requires-clause-few
count_days-requires-clause-few c =
    let day = c.args.day.now in
    let h = in_month day.number _ _ day.of_day_of_month day.of_days_in_month in
    omega (arith, h.0, h.1, h.2)
