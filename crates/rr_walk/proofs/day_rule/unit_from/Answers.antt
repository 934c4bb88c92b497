use Rattle.std.proofs.Common.{◌≡◌, refl, pos, ◌+ℤ◌, arith, w64, to_z, of_z, to_z-of_z}
use Rattle.std.proofs.lemmas.Int.{ints}
use Rattle.rr_model.specs.Moment.Units.{unit_start}
use Rattle.rr_model.specs.declared.kind.Kind.TheVariants.{Days}
use Rattle.rr_walk.proofs.day_rule.unit_from.Goals as goal

pub returns-clause-number : goal.returns-clause-number
returns-clause-number c = to_z-of_z c.ranges.number

pub returns-clause-unit : goal.returns-clause-unit
returns-clause-unit c w begins =
    let near = c.requires.near in
    let number = to_z-of_z c.ranges.number in
    let first = to_z-of_z c.ranges.first in
    let ends = rw number at (c.days_in_unit.ensures.next w) in
    let next : to_z w64 (of_z w64 (to_z w64 (of_z w64 c.args.first) +ℤ to_z w64 (of_z w64 c.from.result)))
    ≡ unit_start c.args.freq w Days (c.args.number +ℤ pos 1) =
    omega (arith, ints, first, begins, ends, c.from.ensures, c.days_in_unit.ensures.few, near.0, near.1) in
    rw (number, next, first) (record { near = near; of_first = begins; of_next = refl })
