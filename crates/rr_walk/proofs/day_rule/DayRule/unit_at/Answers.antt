use Rattle.std.proofs.Common.{◌≡◌, ◌≤◌, ◌∙◌, ◌≤ℤ◌, ◌<ℤ◌, ◌+ℤ◌, pos, sym, arith, w64, to_z, of_z, to_z-of_z}
use Rattle.std.proofs.lemmas.Int.{ints}
use Rattle.rr_walk.proofs.WholeUnitLemmas.{first_is, next_is, number_bounds, number_is, unit_after, unit_within}
use Rattle.rr_walk.proofs.day_rule.DayRule.unit_at.Goals as goal

pub overflow_add-result : goal.overflow_add-result
overflow_add-result c =
    let i = c.self.inside in
    let low : i.rule.week_start ≤ 255 = omega (arith, c.self.invariant.valid.valid.week_start) in
    let b = number_bounds i.rule.freq i.rule.week_start i.unit c.self.invariant.freq c.self.invariant.of_unit low in
    omega (arith, ints, b.0, b.1)

pub returns-then-day-self : goal.returns-then-day-self
returns-then-day-self c =
    let i = c.self.inside in
    let at = c.self.invariant.of_unit in
    let coarse = c.self.invariant.freq in
    let low : i.rule.week_start ≤ 255 = omega (arith, c.self.invariant.valid.valid.week_start) in
    let first = first_is i.rule.freq i.rule.week_start i.unit coarse at in
    let next = next_is i.rule.freq i.rule.week_start i.unit coarse at in
    let day = to_z-of_z c.ranges.day in
    let begun : i.unit.first ≤ℤ c.args.day = omega (arith, ints, c.if-self-day.true, first, day) in
    let not_over : c.args.day <ℤ i.unit.next = omega (arith, ints, c.if-day-self.true, next, day) in
    rw (← c.self.view_is)
    (number_is i.rule.freq i.rule.week_start i.unit coarse at low
    ∙ sym (unit_within i.rule.freq i.rule.week_start i.unit coarse at c.args.day begun not_over))

pub returns-then-day-self-2 : goal.returns-then-day-self-2
returns-then-day-self-2 c =
    let i = c.self.inside in
    let at = c.self.invariant.of_unit in
    let coarse = c.self.invariant.freq in
    let low : i.rule.week_start ≤ 255 = omega (arith, c.self.invariant.valid.valid.week_start) in
    let next = next_is i.rule.freq i.rule.week_start i.unit coarse at in
    let b = number_bounds i.rule.freq i.rule.week_start i.unit coarse at low in
    let is : c.args.day ≡ i.unit.next = omega (arith, ints, c.if-day-self-2.true, next, to_z-of_z c.ranges.day) in
    let number : to_z w64 (of_z w64 (to_z w64 (of_z w64 i.unit.number) +ℤ pos 1)) ≡ i.unit.number +ℤ pos 1 = omega (arith, ints, b.0, b.1) in
    rw (← c.self.view_is) (number ∙ sym (unit_after i.rule.freq i.rule.week_start i.unit coarse at c.args.day is))
