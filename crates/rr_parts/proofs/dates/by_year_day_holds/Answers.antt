use Rattle.std.proofs.Common.{arith}
use Rattle.rr_parts.proofs.DayLemmas.{in_year}
use Rattle.rr_parts.proofs.dates.by_year_day_holds.Goals as goal

pub allows_signed-requires-clause-number : goal.allows_signed-requires-clause-number
allows_signed-requires-clause-number c =
    let day = c.args.day.now in
    let h = in_year day.number _ _ day.of_day_of_year day.of_days_in_year in
    omega (arith, h.1, h.2)
