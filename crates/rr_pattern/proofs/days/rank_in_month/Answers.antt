use Rattle.std.proofs.Common.{arith}
use Rattle.std.proofs.lemmas.Int.{ints}
use Rattle.rr_pattern.proofs.DayLemmas.{in_month}
use Rattle.rr_pattern.proofs.days.rank_in_month.Goals as goal

pub count_days-requires-clause-near : goal.count_days-requires-clause-near
count_days-requires-clause-near c =
    let day = c.args.day.now in
    let h = in_month day.number _ _ day.of_day_of_month day.of_days_in_month in (
      omega (arith, ints, h.0, h.1, h.2, c.from.ensures, c.requires.near.0, c.requires.near.1),
      omega (arith, ints, h.0, h.1, h.2, c.from.ensures, c.requires.near.0, c.requires.near.1),
    )

pub count_days-requires-clause-few : goal.count_days-requires-clause-few
count_days-requires-clause-few c =
    let day = c.args.day.now in
    let h = in_month day.number _ _ day.of_day_of_month day.of_days_in_month in
    omega (arith, h.0, h.1, h.2)
