use Rattle.std.proofs.Common.{◌≡◌, ◌∙◌, arith, w64, to_z, of_z, to_z-of_z}
use Rattle.std.proofs.lemmas.Int.{ints}
use Rattle.rr_walk.proofs.day_rule.whole_unit.Goals as goal

pub unit_from-requires-clause-near : goal.unit_from-requires-clause-near
unit_from-requires-clause-near c =
    let near = c.requires.near in
    let begins = rw (to_z-of_z c.ranges.number) at c.first_day_of_unit-first.ensures in
    (omega (arith, ints, begins, near.0, near.1), omega (arith, ints, begins, near.0, near.1))

pub returns-clause-number : goal.returns-clause-number
returns-clause-number c = c.unit_from.ensures.number ∙ to_z-of_z c.ranges.number

pub returns-clause-unit : goal.returns-clause-unit
returns-clause-unit c =
    let near = c.requires.near in
    let begins = rw (to_z-of_z c.ranges.number) at c.first_day_of_unit-first.ensures in
    let first : to_z w64 (of_z w64 c.first_day_of_unit-first.result) ≡ c.first_day_of_unit-first.result = omega (arith, ints, begins, near.0, near.1) in
    c.unit_from.ensures.unit c.args.week_start (first ∙ c.first_day_of_unit-first.ensures)
