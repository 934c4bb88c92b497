use Rattle.std.proofs.Common.{arith}
use Rattle.rr_model.proofs.CalendarLemmas.{IsDate-year_of}
use Rattle.rr_family.proofs.sorts.month_sort.Goals as goal

pub overflow_sub-result : goal.overflow_sub-result
overflow_sub-result c =
    let day = c.args.day.now in
    omega (arith, c.from.ensures, day.of_month, (IsDate-year_of day.number).0)
