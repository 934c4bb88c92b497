use Rattle.std.proofs.Common.{arith}
use Rattle.rr_parts.proofs.DayLemmas.{in_month, in_year}
use Rattle.rr_parts.proofs.ordinals.is_ordinal_of_day.Goals as goal

pub is_weekday_ordinal-requires-clause-first : goal.is_weekday_ordinal-requires-clause-first
is_weekday_ordinal-requires-clause-first c = let day = c.args.day.now in (in_year day.number _ _ day.of_day_of_year day.of_days_in_year).0

pub is_weekday_ordinal-requires-clause-within : goal.is_weekday_ordinal-requires-clause-within
is_weekday_ordinal-requires-clause-within c = let day = c.args.day.now in (in_year day.number _ _ day.of_day_of_year day.of_days_in_year).1

pub is_weekday_ordinal-requires-else-in_year-clause-first :
    goal.is_weekday_ordinal-requires-else-in_year-clause-first
is_weekday_ordinal-requires-else-in_year-clause-first c =
    let day = c.args.day.now in
    omega (arith, c.from.ensures, (in_month day.number _ _ day.of_day_of_month day.of_days_in_month).0)

pub is_weekday_ordinal-requires-else-in_year-clause-within :
    goal.is_weekday_ordinal-requires-else-in_year-clause-within
is_weekday_ordinal-requires-else-in_year-clause-within c =
    let day = c.args.day.now in
    omega (arith, c.from.ensures, c.from-else-in_year.ensures, (in_month day.number _ _ day.of_day_of_month day.of_days_in_month).1)
