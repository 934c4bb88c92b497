use Rattle.std.proofs.Common.{rules, FitsSigned, ◌≡◌, ◌≤◌, ◌+ℤ◌, pos, arith, w64, to_z-of_z}
use Rattle.std.proofs.lemmas.Int.{ints}
use Rattle.rr_walk.proofs.WholeUnitLemmas.{begins_by, by_test, first_is, next_is, number_bounds, number_is}
use Rattle.rr_walk.proofs.day_rule.DayRule.begins_by.Goals as goal

pub overflow_add-self-inside : goal.overflow_add-self-inside
overflow_add-self-inside c =
    let i = c.self.inside in
    let low : i.rule.week_start ≤ 255 = omega (arith, c.self.invariant.valid.valid.week_start) in
    let b = number_bounds i.rule.freq i.rule.week_start i.unit c.self.invariant.freq c.self.invariant.of_unit low in
    omega (arith, ints, b.0, b.1)

pub returns-then-unit-self-clause-begun : goal.returns-then-unit-self-clause-begun
returns-then-unit-self-clause-begun c =
    let i = c.self.inside in
    let at = c.self.invariant.of_unit in
    let coarse = c.self.invariant.freq in
    let low : i.rule.week_start ≤ 255 = omega (arith, c.self.invariant.valid.valid.week_start) in
    let number = number_is i.rule.freq i.rule.week_start i.unit coarse at low in
    let is : i.unit.number ≡ c.args.unit = omega (arith, ints, c.if-unit-self.true, number, to_z-of_z c.ranges.unit) in
    rw (← c.self.view_is, first_is i.rule.freq i.rule.week_start i.unit coarse at, to_z-of_z c.ranges.day)
    (begins_by i.rule.freq i.rule.week_start c.args.unit c.args.day i.unit.first coarse (rw is at at.of_first))

pub returns-then-unit-self-2-clause-begun : goal.returns-then-unit-self-2-clause-begun
returns-then-unit-self-2-clause-begun c =
    let i = c.self.inside in
    let at = c.self.invariant.of_unit in
    let coarse = c.self.invariant.freq in
    let low : i.rule.week_start ≤ 255 = omega (arith, c.self.invariant.valid.valid.week_start) in
    let b = number_bounds i.rule.freq i.rule.week_start i.unit coarse at low in
    let is : i.unit.number +ℤ pos 1 ≡ c.args.unit = omega (arith, ints, c.if-unit-self-2.true, b.0, b.1, to_z-of_z c.ranges.unit) in
    rw (← c.self.view_is, next_is i.rule.freq i.rule.week_start i.unit coarse at, to_z-of_z c.ranges.day)
    (begins_by i.rule.freq i.rule.week_start c.args.unit c.args.day i.unit.next coarse (rw is at at.of_next))

pub returns-else-unit-self-2-clause-begun : goal.returns-else-unit-self-2-clause-begun
returns-else-unit-self-2-clause-begun c =
    let fits : FitsSigned w64 c.last_unit.result = search rules in
    let last = rw (to_z-of_z c.ranges.day) at c.last_unit.ensures.unit in
    rw (to_z-of_z c.ranges.unit, to_z-of_z fits, last) (by_test _ _ _ (λ l. l, λ l. l))
