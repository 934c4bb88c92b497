use Rattle.std.proofs.Common.{arith}
use Rattle.std.proofs.lemmas.Int.{ints}
use Rattle.rr_cal.proofs.UnitLemmas.{year_near}
use Rattle.rr_cal.proofs.units.month_number.Goals as goal

pub overflow_mul-result : goal.overflow_mul-result
overflow_mul-result c =
    let day = c.args.day.now in
    let near = year_near day.number day.year day.of_year day.near in
    omega (arith, ints, near.0, near.1)

pub overflow_add-result : goal.overflow_add-result
overflow_add-result c =
    let day = c.args.day.now in
    let near = year_near day.number day.year day.of_year day.near in
    omega (arith, ints, near.0, near.1, c.from.ensures)

pub overflow_sub-result : goal.overflow_sub-result
overflow_sub-result c =
    let day = c.args.day.now in
    let near = year_near day.number day.year day.of_year day.near in
    omega (arith, ints, near.0, near.1, c.from.ensures)

pub returns : goal.returns
returns c =
    let day = c.args.day.now in
    let near = year_near day.number day.year day.of_year day.near in
    omega (arith, ints, near.0, near.1, c.from.ensures, day.of_year, day.of_month)
