use Rattle.std.proofs.Common.{◌≡◌, ◌∙◌, ◌≤◌, pos, ◌+ℤ◌, arith, w64, to_z, of_z, to_z-of_z}
use Rattle.std.proofs.lemmas.Int.{ints}
use Rattle.rr_model.specs.Moment.Units.{unit_start}
use Rattle.rr_model.specs.declared.kind.Kind.TheVariants.{Days}
use Rattle.rr_walk.proofs.WholeUnitLemmas.{next_is, number_bounds}
use Rattle.rr_walk.proofs.day_rule.unit_beside.Goals as goal
use Rattle.rr_walk.proofs.day_rule.unit_beside.Goals.{Then-number-known}

pub overflow_add-known : goal.overflow_add-known
overflow_add-known c =
    let low : c.args.week_start ≤ 255 = omega (arith, c.ranges.week_start.fits) in
    let b = number_bounds c.args.freq c.args.week_start c.args.known c.requires.freq c.requires.known low in
    omega (arith, ints, b.0, b.1)

-- the first day of the unit after the one that is known
begins : (c : Then-number-known) → to_z w64 (of_z w64 c.args.known.next) ≡ unit_start c.args.freq c.args.week_start Days c.args.number
begins c =
    let low : c.args.week_start ≤ 255 = omega (arith, c.ranges.week_start.fits) in
    let b = number_bounds c.args.freq c.args.week_start c.args.known c.requires.freq c.requires.known low in
    let is : c.args.known.number +ℤ pos 1 ≡ c.args.number = omega (arith, ints, c.if-number-known.true, to_z-of_z c.ranges.number, b.0, b.1) in
    next_is c.args.freq c.args.week_start c.args.known c.requires.freq c.requires.known ∙ (rw is at c.requires.known.of_next)

pub unit_from-requires-clause-near : goal.unit_from-requires-clause-near
unit_from-requires-clause-near c = rw (begins (goal.at.unit_from-requires-clause-near c).Then-number-known) c.requires.near

pub returns-then-number-known-clause-unit : goal.returns-then-number-known-clause-unit
returns-then-number-known-clause-unit c =
    c.unit_from.ensures.unit c.args.week_start
    (rw (to_z-of_z c.ranges.number) (begins (goal.at.returns-then-number-known-clause-unit c).Then-number-known))
