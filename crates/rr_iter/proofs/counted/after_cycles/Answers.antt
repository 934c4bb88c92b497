use Rattle.std.proofs.Common.{◌≡◌, ℕ, ◌*◌, ◌-◌, ◌/◌, ◌≤◌, ℤ, pos, neg_ℤ, ◌+ℤ◌, ◌-ℤ◌, ◌≤ℤ◌, w64, to_z, of_z, FitsSigned, to_z-of_z, refl, arith}
use Rattle.std.proofs.lemmas.Int.{ints}
use Rattle.rr_model.specs.Bounds.{first_day_of_all}
use Rattle.rr_model.specs.Moment.{day_part}
use Rattle.rr_model.specs.Moment.Years.{IsFromYearOne}
use Rattle.rr_model.specs.Rule.Cycle.{rule_cycle}
use Rattle.rr_model.specs.Sets.Tree.{chosen_of}
use Rattle.rr_model.specs.declared.limits.TheConstants.{MAX_SPAN_DAYS}
use Rattle.rr_model.proofs.YearLemmas.{year_1}
use Rattle.rr_iter.specs.Ends.{HasNumberOn}
use Rattle.rr_iter.proofs.CountedLemmas.{rule_number_moved, rule_number_beyond, rule_number_after, start_bounds, cycle_some, days_within}
use Rattle.rr_iter.proofs.CountedLemmas.{days_beyond}
use Rattle.rr_iter.proofs.counted.after_cycles.Goals.{After-day_part, In-On}
use Rattle.rr_iter.proofs.counted.after_cycles.Goals as goal

-- ---- k cycles, so that a span has them; the start's day is `r`, and `to` the last day to be looked at

record Span (first : ℤ) (days : ℕ) (r : ℤ) : Type 0 where
  within : days ≤ MAX_SPAN_DAYS
  low : neg_ℤ (pos 719_162) ≤ℤ (first +ℤ (pos 16_777_216 -ℤ pos days))
  high : (first +ℤ (pos 16_777_216 -ℤ pos days)) ≤ℤ pos 2_999_999_999_000
  rest_fits : FitsSigned w64 (pos 16_777_216 -ℤ to_z w64 days)
  to_fits : FitsSigned w64 (to_z w64 (of_z w64 r) +ℤ to_z w64 (of_z w64 (pos 16_777_216 -ℤ to_z w64 days)))
  to : to_z w64 (of_z w64 (to_z w64 (of_z w64 r) +ℤ to_z w64 (of_z w64 (pos 16_777_216 -ℤ to_z w64 days)))) ≡ first +ℤ (pos 16_777_216 -ℤ pos days)
  -- a day up to it, that many days later
  later : (day : ℤ) → IsFromYearOne day → day ≤ℤ (first +ℤ (pos 16_777_216 -ℤ pos days))
      → FitsSigned w64 (to_z w64 (of_z w64 day) +ℤ to_z w64 days) × (to_z w64 (of_z w64 (to_z w64 (of_z w64 day) +ℤ to_z w64 days)) ≡ day +ℤ pos days)

span_is : (first : ℤ) (days : ℕ) (r : ℤ) → first_day_of_all ≤ℤ first → first ≤ℤ pos 2_932_896 → days ≤ MAX_SPAN_DAYS → r ≡ first → Span first days r
span_is first days r low high within e =
    let days_is : to_z w64 days ≡ pos days = omega (arith, ints, within) in
    let first_is : to_z w64 (of_z w64 r) ≡ first = omega (arith, ints, e, low, high) in
    let rest_is : to_z w64 (of_z w64 (pos 16_777_216 -ℤ pos days)) ≡ pos 16_777_216 -ℤ pos days = omega (arith, ints, within) in
    record {
      within = within;
      low = omega (arith, ints, low, within);
      high = omega (arith, ints, high, within);
      rest_fits = rw days_is (omega (arith, ints, within));
      to_fits = rw (days_is, first_is, rest_is) (omega (arith, ints, low, high, within));
      to = rw (days_is, first_is, rest_is) (omega (arith, ints, low, high, within));
      later = λ day begun early. (
          let day_is : to_z w64 (of_z w64 day) ≡ day = omega (arith, ints, begun, year_1, early, high, within) in (
            rw (days_is, day_is) (omega (arith, ints, begun, year_1, early, high, within)),
            rw (days_is, day_is) (omega (arith, ints, begun, year_1, early, high, within)),
          ));
    }

span : (c : After-day_part) → Span (day_part c.args.kind c.args.start) ((c.args.left - 1) / c.args.each * rule_cycle c.args.rule.now) c.day_part.result
span c =
    let rule = c.args.rule.now in
    let bounds = start_bounds c.args.kind c.args.start rule c.requires.sound in
    let few = rw c.day_cycle-cycle.ensures.value at c.if-cycles-cycle.false in
    span_is _ _ c.day_part.result bounds.0 bounds.1
    (days_within ((c.args.left - 1) / c.args.each) (rule_cycle rule) (cycle_some c.args.kind c.args.start rule c.requires.sound) few)
    (rw (to_z-of_z c.ranges.start) at c.day_part.ensures)

pub nonzero_div-cycles : goal.nonzero_div-cycles
nonzero_div-cycles c =
    let some = c.requires.some_each in
    omega (arith, some)

pub returns-then-cycles-cycle : goal.returns-then-cycles-cycle
returns-then-cycles-cycle c =
    let rule = c.args.rule.now in
    let k : ℕ = (c.args.left - 1) / c.args.each in
    let many = rw c.day_cycle-cycle.ensures.value at c.if-cycles-cycle.true in
    let far = days_beyond k (rule_cycle rule) (cycle_some c.args.kind c.args.start rule c.requires.sound) many in
    let a = c.args in
    (refl, rule_number_after a.kind a.start rule c.requires.sound a.each c.requires.each a.count a.left c.requires.left c.requires.some far)

pub overflow_sub-to : goal.overflow_sub-to
overflow_sub-to c = rw c.day_cycle-cycle.ensures.value (span c).rest_fits

pub overflow_add-to : goal.overflow_add-to
overflow_add-to c = rw c.day_cycle-cycle.ensures.value (span c).to_fits

pub day_of_nth-requires-clause-low : goal.day_of_nth-requires-clause-low
day_of_nth-requires-clause-low c =
    let s = span c in
    rw (c.day_cycle-cycle.ensures.value, s.to) (omega (arith, ints, s.low, year_1))

pub day_of_nth-requires-clause-high : goal.day_of_nth-requires-clause-high
day_of_nth-requires-clause-high c =
    let s = span c in
    rw (c.day_cycle-cycle.ensures.value, s.to) s.high

-- ---- if the number lies that many cycles before

on_day : (c : In-On) → let days = (c.args.left - 1) / c.args.each * rule_cycle c.args.rule.now in
    (c.in-On.day ≤ℤ (day_part c.args.kind c.args.start +ℤ (pos 16_777_216 -ℤ pos days)))
    × HasNumberOn (chosen_of c.args.rule.now c.args.kind c.args.start) (c.args.count - (c.args.left - 1) / c.args.each * c.args.each) c.in-On.day
on_day c =
    let s = span (goal.at.overflow_add-result c).After-day_part in
    rw (c.in-On.is, to_z-of_z c.ranges.start, c.day_cycle-cycle.ensures.value, s.to) at c.in_ok-day.ensures

pub overflow_add-result : goal.overflow_add-result
overflow_add-result c =
    let place = on_day c in
    rw c.day_cycle-cycle.ensures.value ((span (goal.at.overflow_add-result c).After-day_part).later c.in-On.day place.1.begun place.0).0

pub returns-in-On : goal.returns-in-On
returns-in-On c =
    let at = goal.at.returns-in-On c in
    let place = on_day c in
    let later = ((span at.After-day_part).later c.in-On.day place.1.begun place.0).1 in
    let a = c.args in
    let r = c.requires in
    let moved = rule_number_moved a.kind a.start a.rule.now r.sound a.each r.each a.count a.left r.left r.some c.in-On.day place.1 in
    rw (c.day_cycle-cycle.ensures.value, later) (omega (arith, ints, place.0), moved)

pub returns-in-Beyond : goal.returns-in-Beyond
returns-in-Beyond c =
    let s = span (goal.at.returns-in-Beyond c).After-day_part in
    let place = rw (c.in-Beyond.is, to_z-of_z c.ranges.start, c.day_cycle-cycle.ensures.value, s.to) at c.in_ok-day.ensures in
    let a = c.args in
    let r = c.requires in
    (refl, rule_number_beyond a.kind a.start a.rule.now r.sound a.each r.each a.count a.left r.left r.some c.in-Beyond.field-0 s.within place.0 place.1)
