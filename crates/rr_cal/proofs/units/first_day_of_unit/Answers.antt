use Rattle.std.proofs.Common.{rules, ◌∙◌, w64, to_z-of_z, FitsSigned}
use Rattle.rr_model.specs.Calendar.{IsDayWithin, first_day_of_year}
use Rattle.rr_model.proofs.WeekLemmas.{day_number-january_1}
use Rattle.rr_cal.proofs.units.first_day_of_unit.Goals as goal

pub day_of-requires-clause-near : goal.day_of-requires-clause-near
day_of-requires-clause-near c =
    let near : IsDayWithin 1000 (first_day_of_year c.args.unit) = rw c.in-Yearly.is at c.requires.near in
    rw (to_z-of_z c.ranges.unit, day_number-january_1 c.args.unit) near

pub returns-in-Yearly : goal.returns-in-Yearly
returns-in-Yearly c =
    let fits : FitsSigned w64 c.day_of.result = search rules in
    rw (c.in-Yearly.is) (to_z-of_z fits ∙ c.day_of.ensures ∙ rw (to_z-of_z c.ranges.unit) (day_number-january_1 c.args.unit))
