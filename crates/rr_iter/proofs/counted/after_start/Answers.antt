use Rattle.std.proofs.Common.{◌≡◌, ℕ, ◌+◌, ◌-◌, ◌≤◌, ℤ, pos, ◌+ℤ◌, ◌≤ℤ◌, w64, to_z, of_z, FitsSigned, to_z-of_z, refl, ap, arith}
use Rattle.std.proofs.lemmas.Int.{ints}
use Rattle.rr_model.specs.Bounds.{first_day_of_all}
use Rattle.rr_model.specs.Moment.{day_part}
use Rattle.rr_model.specs.Moment.Years.{IsFromYearOne}
use Rattle.rr_model.specs.Rule.Cycle.{rule_cycle}
use Rattle.rr_model.specs.Sets.Tree.{Tree, chosen_of, stands_at}
use Rattle.rr_model.specs.declared.limits.TheConstants.{MAX_SPAN_DAYS}
use Rattle.rr_model.proofs.YearLemmas.{year_1}
use Rattle.rr_lazy.proofs.CountingLemmas.{before_grows}
use Rattle.rr_iter.specs.Counts.{IsCounted}
use Rattle.rr_iter.specs.Ends.{before_day}
use Rattle.rr_iter.proofs.CountedLemmas.{rule_number_never, start_begun, start_bounds, within_cycle}
use Rattle.rr_iter.proofs.counted.after_start.Goals.{After-day_part, Else-after-left}
use Rattle.rr_iter.proofs.counted.after_start.Goals as goal

to_fits : (r first : ℤ) (days : ℕ) → r ≡ first → first_day_of_all ≤ℤ first → first ≤ℤ pos 2_932_896 → days ≤ MAX_SPAN_DAYS
    → FitsSigned w64 (to_z w64 (of_z w64 r) +ℤ to_z w64 days)
to_fits r first days e l h d =
    let a : to_z w64 days ≡ pos days = omega (arith, ints, d) in
    let b : to_z w64 (of_z w64 r) ≡ first = omega (arith, ints, e, l, h) in
    rw (a, b) (omega (arith, ints, l, h, d))

-- the last day to be looked at
to_is : (r first : ℤ) (days : ℕ) → r ≡ first → first_day_of_all ≤ℤ first → first ≤ℤ pos 2_932_896 → days ≤ MAX_SPAN_DAYS
    → to_z w64 (of_z w64 (to_z w64 (of_z w64 r) +ℤ to_z w64 days)) ≡ first +ℤ pos days
to_is r first days e l h d =
    let a : to_z w64 days ≡ pos days = omega (arith, ints, d) in
    let b : to_z w64 (of_z w64 r) ≡ first = omega (arith, ints, e, l, h) in
    rw (a, b) (omega (arith, ints, l, h, d))

-- the first number that is left falls as days go by
left_falls : (tree : Tree) (first : ℤ) (days : ℕ) (count left after : ℕ) → IsFromYearOne first → before_day tree (first +ℤ pos 1) + left ≡ count
    → before_day tree ((first +ℤ pos days) +ℤ pos 1) + after ≡ count → after ≤ left
left_falls tree first days count left after begun l a =
    let grown = before_grows (λ d s. stands_at tree d s) (first +ℤ pos 1) ((first +ℤ pos days) +ℤ pos 1) (omega (arith, ints, begun)) (omega (arith, ints)) in
    omega (arith, grown, l, a)

-- ---- a cycle after the start's day, or the most days of a span

record Span (c : After-day_part) : Type 0 where
  within : c.cycle_within_span-cycle.result ≤ MAX_SPAN_DAYS
  low : first_day_of_all ≤ℤ day_part c.args.kind c.args.start
  high : day_part c.args.kind c.args.start ≤ℤ pos 2_932_896
  day : c.day_part.result ≡ day_part c.args.kind c.args.start
  to : to_z w64 (of_z w64 (to_z w64 (of_z w64 c.day_part.result) +ℤ to_z w64 c.cycle_within_span-cycle.result))
      ≡ day_part c.args.kind c.args.start +ℤ pos c.cycle_within_span-cycle.result

span : (c : After-day_part) → Span c
span c =
    let first : ℤ = day_part c.args.kind c.args.start in
    let cycle : ℕ = c.cycle_within_span-cycle.result in
    let within : cycle ≤ MAX_SPAN_DAYS = omega (arith, c.cycle_within_span-cycle.ensures) in
    let bounds = start_bounds c.args.kind c.args.start c.args.rule.now c.requires.sound in
    let day = rw (to_z-of_z c.ranges.start) at c.day_part.ensures in
    record {
      within = within;
      low = bounds.0;
      high = bounds.1;
      day = day;
      to = to_is c.day_part.result first cycle day bounds.0 bounds.1 within;
    }

pub overflow_add-to : goal.overflow_add-to
overflow_add-to c =
    let s = span c in
    to_fits c.day_part.result (day_part c.args.kind c.args.start) c.cycle_within_span-cycle.result s.day s.low s.high s.within

pub day_of_nth-requires-clause-low : goal.day_of_nth-requires-clause-low
day_of_nth-requires-clause-low c =
    let s = span c in
    rw s.to (omega (arith, ints, s.low, year_1))

pub day_of_nth-requires-clause-high : goal.day_of_nth-requires-clause-high
day_of_nth-requires-clause-high c =
    let s = span c in
    rw s.to (omega (arith, ints, s.high, s.within))

-- ---- if the number lies beyond it

-- as many occurrences come up to one day as up to the other, if both lie the same number of days after the first
same_days : (tree : Tree) (first : ℤ) (days whole : ℕ) → days ≡ whole
    → before_day tree ((first +ℤ pos days) +ℤ pos 1) ≡ before_day tree ((first +ℤ pos whole) +ℤ pos 1)
same_days tree first days whole e = ap (λ n. before_day tree ((first +ℤ pos n) +ℤ pos 1)) e

pub returns-then-cycle-eq-MAX_SPAN_DAYS-clause-day : goal.returns-then-cycle-eq-MAX_SPAN_DAYS-clause-day
returns-then-cycle-eq-MAX_SPAN_DAYS-clause-day c =
    let s = span (goal.at.returns-then-cycle-eq-MAX_SPAN_DAYS-clause-day c).After-day_part in
    let place = rw (c.in-Beyond.is, to_z-of_z c.ranges.start, s.to) at c.in_ok-day.ensures in
    let first : ℤ = day_part c.args.kind c.args.start in
    let cycle : ℕ = c.cycle_within_span-cycle.result in
    let whole : cycle ≡ 16_777_216 = c.if-cycle-eq-MAX_SPAN_DAYS.true in
    let end : (first +ℤ pos cycle) +ℤ pos 1 ≡ first +ℤ pos 16_777_217 = omega (arith, ints, whole) in
    (refl, omega (arith, ap (before_day (chosen_of c.args.rule.now c.args.kind c.args.start)) end, place.0, place.1))

pub returns-then-after-left-clause-day : goal.returns-then-after-left-clause-day
returns-then-after-left-clause-day c =
    let s = span (goal.at.returns-then-after-left-clause-day c).After-day_part in
    let place = rw (c.in-Beyond.is, to_z-of_z c.ranges.start, s.to) at c.in_ok-day.ensures in
    let rule = c.args.rule.now in
    let kind = c.args.kind in
    let start = c.args.start in
    let tree : Tree = chosen_of rule kind start in
    let first : ℤ = day_part kind start in
    let whole : c.cycle_within_span-cycle.result ≡ rule_cycle rule = omega (arith, c.cycle_within_span-cycle.ensures, c.if-cycle-eq-MAX_SPAN_DAYS.false) in
    let same : c.in-Beyond.after ≡ c.args.left = c.if-after-left.true in
    let one : before_day tree ((first +ℤ pos (rule_cycle rule)) +ℤ pos 1) ≡ before_day tree (first +ℤ pos 1) + 0 =
    omega (arith, same_days tree first _ _ whole, same, c.requires.left, place.1) in
    (refl, rule_number_never kind start rule c.requires.sound 0 one c.args.count c.args.left c.requires.left c.requires.some refl)

-- what was counted then
record Beyond (c : Else-after-left) : Type 0 where
  falls : c.in-Beyond.after ≤ c.args.left
  known : IsCounted c.args.rule.now c.args.kind c.args.start c.args.count (record { each = c.args.left - c.in-Beyond.after; after = c.in-Beyond.after })

beyond : (c : Else-after-left) → Beyond c
beyond c =
    let kind = c.args.kind in
    let start = c.args.start in
    let rule = c.args.rule.now in
    let tree : Tree = chosen_of rule kind start in
    let s = span (goal.at.overflow_sub-each c).After-day_part in
    let place = rw (c.in-Beyond.is, to_z-of_z c.ranges.start, s.to) at c.in_ok-day.ensures in
    let falls = left_falls tree (day_part kind start) c.cycle_within_span-cycle.result c.args.count c.args.left c.in-Beyond.after
    (start_begun kind start rule c.requires.sound) c.requires.left place.1 in
    let whole : c.cycle_within_span-cycle.result ≡ rule_cycle rule = omega (arith, c.cycle_within_span-cycle.ensures, c.if-cycle-eq-MAX_SPAN_DAYS.false) in
    let same = same_days tree (day_part kind start) c.cycle_within_span-cycle.result (rule_cycle rule) whole in
    record {
      falls = falls;
      known = record {
        some_each = omega (arith, falls, c.if-after-left.false);
        each = omega (arith, same, falls, c.requires.left, place.1);
        some_after = place.0;
        after = omega (arith, same, place.1);
      };
    }

pub overflow_sub-each : goal.overflow_sub-each
overflow_sub-each c = (beyond c).falls

pub after_cycles-requires-clause-each : goal.after_cycles-requires-clause-each
after_cycles-requires-clause-each c = rw (to_z-of_z c.ranges.start) (beyond c).known.each

pub after_cycles-requires-clause-some_each : goal.after_cycles-requires-clause-some_each
after_cycles-requires-clause-some_each c = (beyond c).known.some_each

pub returns-in-Ok-clause-counted : goal.returns-in-Ok-clause-counted
returns-in-Ok-clause-counted c = (beyond (goal.at.returns-in-Ok-clause-counted c).Else-after-left).known

pub returns-in-Ok-clause-day : goal.returns-in-Ok-clause-day
returns-in-Ok-clause-day c =
    let s = span (goal.at.returns-in-Ok-clause-day c).After-day_part in
    let place = rw (to_z-of_z c.ranges.start) at c.in-Ok.ensures in
    let low : first_day_of_all ≤ℤ c.in-Ok.day = omega (arith, ints, place.1.begun, year_1) in
    let same : to_z w64 (of_z w64 c.in-Ok.day) ≡ c.in-Ok.day = omega (arith, ints, low, place.0, s.high) in
    rw same place

-- ---- if it lies up to it

pub returns-in-On-clause-day : goal.returns-in-On-clause-day
returns-in-On-clause-day c =
    let s = span (goal.at.returns-in-On-clause-day c).After-day_part in
    let place = rw (c.in-On.is, to_z-of_z c.ranges.start, s.to) at c.in_ok-day.ensures in
    let low : first_day_of_all ≤ℤ c.in-On.day = omega (arith, ints, place.1.begun, year_1) in
    let same : to_z w64 (of_z w64 c.in-On.day) ≡ c.in-On.day = omega (arith, ints, low, place.0, s.high, s.within) in
    rw same (omega (arith, ints, place.0, s.within), place.1)

pub returns-in-On-clause-counted : goal.returns-in-On-clause-counted
returns-in-On-clause-counted c =
    let s = span (goal.at.returns-in-On-clause-counted c).After-day_part in
    let place = rw (c.in-On.is, to_z-of_z c.ranges.start, s.to) at c.in_ok-day.ensures in
    let short : c.cycle_within_span-cycle.result ≤ rule_cycle c.args.rule.now = omega (arith, c.cycle_within_span-cycle.ensures) in
    within_cycle c.args.rule.now c.args.kind c.args.start c.args.count c.in-On.day place.1 (omega (arith, ints, place.0, short))
