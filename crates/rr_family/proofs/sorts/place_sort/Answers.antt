use Rattle.std.proofs.Common.{arith}
use Rattle.rr_pattern.proofs.DayLemmas.{in_month, is_weekday}
use Rattle.rr_family.proofs.sorts.place_sort.Goals as goal

pub place_sort_of-requires-clause-low : goal.place_sort_of-requires-clause-low
place_sort_of-requires-clause-low c =
    let day = c.args.day.now in
    omega (arith, c.from.ensures, (in_month day.number _ _ day.of_day_of_month day.of_days_in_month).0)

pub place_sort_of-requires-clause-high : goal.place_sort_of-requires-clause-high
place_sort_of-requires-clause-high c =
    let day = c.args.day.now in
    omega (arith, c.from.ensures, c.from-2.ensures, (in_month day.number _ _ day.of_day_of_month day.of_days_in_month).1)

pub place_sort_of-requires-clause-weekday : goal.place_sort_of-requires-clause-weekday
place_sort_of-requires-clause-weekday c =
    let day = c.args.day.now in
    omega (arith, c.from-3.ensures, is_weekday day.number day.weekday day.of_weekday)
