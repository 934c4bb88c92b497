use Rattle.std.proofs.Common.{arith}
use Rattle.std.proofs.lemmas.Int.{ints}
use Rattle.rr_cal.proofs.UnitLemmas.{week_near, first_day_of_week_is}
use Rattle.rr_cal.proofs.units.first_day_of_week.Goals as goal

pub overflow_mul-result : goal.overflow_mul-result
overflow_mul-result c =
    let near = week_near c.args.week c.args.week_start (omega arith) c.requires.near in
    omega (arith, ints, near.0, near.1)

pub overflow_add-result : goal.overflow_add-result
overflow_add-result c =
    let near = week_near c.args.week c.args.week_start (omega arith) c.requires.near in
    omega (arith, ints, near.0, near.1, c.from.ensures)

pub overflow_sub-result : goal.overflow_sub-result
overflow_sub-result c =
    let near = week_near c.args.week c.args.week_start (omega arith) c.requires.near in
    omega (arith, ints, near.0, near.1, c.from.ensures)

pub returns : goal.returns
returns c =
    let near = week_near c.args.week c.args.week_start (omega arith) c.requires.near in
    omega (arith, ints, near.0, near.1, c.from.ensures, first_day_of_week_is c.args.week c.args.week_start)
