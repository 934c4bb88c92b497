use Rattle.std.proofs.Common.{arith}
use Rattle.rr_parts.proofs.DayLemmas.{in_year}
use Rattle.rr_family.proofs.sorts.year_day_sort.Goals as goal

pub overflow_sub-result : goal.overflow_sub-result
overflow_sub-result c =
    let day = c.args.day.now in
    omega (arith, (in_year day.number _ _ day.of_day_of_year day.of_days_in_year).0)
