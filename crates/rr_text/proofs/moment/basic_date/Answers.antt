use Rattle.std.proofs.Common.{refl, arith, rules}
use Rattle.std.proofs.lemmas.Int.{ints}
use Rattle.rr_model.specs.Calendar.{day_number}
use Rattle.rr_model.proofs.YearLemmas.{four_digit_bounds}
use Rattle.rr_text.proofs.BasicLemmas.{near}
use Rattle.rr_text.proofs.moment.basic_date.Goals as goal

pub day_of-requires-clause-near : goal.day_of-requires-clause-near
day_of-requires-clause-near c =
    let date = c.date_in-date.result in
    let bounds = near date.year _ date.month date.day refl (omega (arith, ints, c.if-date-lt1.false)) c.date_in-date.ensures.small
    (c.valid.ensures.date.0 c.if-not-valid.false) in
    let days = four_digit_bounds (day_number date.year date.month date.day) bounds in
    (omega (arith, ints, days.0), omega (arith, ints, days.1))

pub returns-clause-years : goal.returns-clause-years
returns-clause-years c =
    let date = c.date_in-date.result in
    let bounds = near date.year _ date.month date.day refl (omega (arith, ints, c.if-date-lt1.false)) c.date_in-date.ensures.small
    (c.valid.ensures.date.0 c.if-not-valid.false) in
    search (rules, bounds.0, bounds.1)
