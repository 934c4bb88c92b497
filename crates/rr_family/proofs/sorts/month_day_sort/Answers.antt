use Rattle.std.proofs.Common.{arith}
use Rattle.rr_pattern.proofs.DayLemmas.{in_month}
use Rattle.rr_family.proofs.sorts.month_day_sort.Goals as goal

pub month_day_sort_of-requires-clause-low : goal.month_day_sort_of-requires-clause-low
month_day_sort_of-requires-clause-low c =
    let day = c.args.day.now in
    omega (arith, c.from.ensures, (in_month day.number _ _ day.of_day_of_month day.of_days_in_month).0)

pub month_day_sort_of-requires-clause-high : goal.month_day_sort_of-requires-clause-high
month_day_sort_of-requires-clause-high c =
    let day = c.args.day.now in
    omega (arith, c.from.ensures, c.from-2.ensures, (in_month day.number _ _ day.of_day_of_month day.of_days_in_month).1)
