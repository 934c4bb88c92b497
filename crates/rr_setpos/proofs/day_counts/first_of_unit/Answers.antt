use Rattle.std.proofs.Common.{rules, FitsSigned, w64, to_z-of_z}
use Rattle.rr_setpos.proofs.UnitDayLemmas.{in_unit, not_over, near_day}
use Rattle.rr_setpos.proofs.day_counts.first_of_unit.Goals as goal

pub first_day_of_unit-requires-clause-near : goal.first_day_of_unit-requires-clause-near
first_day_of_unit-requires-clause-near c =
    let fits : FitsSigned w64 c.unit_of_day-unit.result = search rules in
    rw (to_z-of_z fits, c.unit_of_day-unit.ensures) (near_day c.args.rule.now c.args.day.now.number c.requires.freq c.requires.near).0

pub returns-clause-begun : goal.returns-clause-begun
returns-clause-begun c =
    let fits : FitsSigned w64 c.unit_of_day-unit.result = search rules in
    let there : FitsSigned w64 c.first_day_of_unit.result = search rules in
    rw (to_z-of_z there, c.first_day_of_unit.ensures, to_z-of_z fits, c.unit_of_day-unit.ensures)
    (in_unit c.args.rule.now c.args.day.now.number c.requires.freq).0

pub returns-clause-not_over : goal.returns-clause-not_over
returns-clause-not_over c =
    let fits : FitsSigned w64 c.unit_of_day-unit.result = search rules in
    let there : FitsSigned w64 c.first_day_of_unit.result = search rules in
    rw (to_z-of_z there, c.first_day_of_unit.ensures, to_z-of_z fits, c.unit_of_day-unit.ensures)
    (not_over c.args.rule.now c.args.day.now.number c.requires.freq)

pub returns-clause-near : goal.returns-clause-near
returns-clause-near c =
    let fits : FitsSigned w64 c.unit_of_day-unit.result = search rules in
    let there : FitsSigned w64 c.first_day_of_unit.result = search rules in
    rw (to_z-of_z there, c.first_day_of_unit.ensures, to_z-of_z fits, c.unit_of_day-unit.ensures)
    (near_day c.args.rule.now c.args.day.now.number c.requires.freq c.requires.near).0
