use Rattle.std.proofs.Common.{◌≡◌, ℤ, pos, ◌+ℤ◌, ◌≤ℤ◌, arith, ap, sym, subst, ◌∙◌, w64, to_z, of_z, to_z-of_z}
use Rattle.std.specs.Prelude.{List, Option}
use Rattle.std.proofs.lemmas.Int.{ints}
use Rattle.rr_model.specs.declared.kind.Kind.TheVariants.{Moments}
use Rattle.rr_model.specs.declared.rule.Rule.{Rule}
use Rattle.rr_model.specs.Sets.Tree.{chosen_of}
use Rattle.rr_shapes.specs.declared.ids.SetId.{SetId}
use Rattle.rr_lazy.proofs.AheadLemmas.{join}
use Rattle.rr_walk.specs.Ruling.{IsSameRuling, KnowsUnitOffsets, Ruling, ruling_of}
use Rattle.rr_walk.proofs.FineLemmas.{fine_more, fine_none, fine_some, found_first, none_past}
use Rattle.rr_walk.proofs.fine_rule.FineRuleRuleWalk.first_up_to.Goals as goal

-- the rule and the start of a walk are those of the call, whose kind is Moments
record IsWalkOf (rule : Rule) (start : ℤ) (r : Ruling) : Type 0 where
  of_rule : rule ≡ r.rule
  of_start : start ≡ r.start
  moments : r.kind ≡ Moments

walk_of : (rule : Rule) (start : ℤ) (kept : List (Option SetId)) (walk r : Ruling) → ruling_of rule Moments start kept ≡ walk → IsSameRuling walk r
    → IsWalkOf rule start r
walk_of rule start kept walk r view same =
    record {
      of_rule = ap (λ (q : Ruling). q.rule) view ∙ same.rule;
      of_start = ap (λ (q : Ruling). q.start) view ∙ same.start;
      moments = sym same.kind ∙ ap (λ (q : Ruling). q.kind) (sym view);
    }

pub returns-in-None-clause-knows : goal.returns-in-None-clause-knows
returns-in-None-clause-knows c = subst (λ q. KnowsUnitOffsets q c.loop-day.sets) (sym c.self.view_is) c.loop-day.invariant.1

pub returns-in-None-clause-found : goal.returns-in-None-clause-found
returns-in-None-clause-found c =
    let r = c.args.self.now in
    let i = c.self.inside in
    let walk = walk_of i.rule i.start i.numbers.items _ r c.self.view_is c.loop-day.invariant.0 in
    let next : to_z w64 (of_z w64 (to_z w64 (of_z w64 c.args.to) +ℤ pos 1)) ≡ c.args.to +ℤ pos 1 = omega (arith, ints, c.requires.next.0, c.requires.next.1) in
    let before = rw (to_z-of_z c.ranges.from) at c.loop-day.invariant.5 in
    let allowed = rw (walk.of_rule, walk.of_start) at c.self.invariant.of_allowed in
    rw walk.moments
    (fine_none r i.allowed allowed c.args.from (to_z w64 c.loop-day.day-bits) c.args.to before (rw next at c.in-None.ensures.first))

pub loop-day-preserved-then-day-allowed : goal.loop-day-preserved-then-day-allowed
loop-day-preserved-then-day-allowed c =
    let r = c.args.self.now in
    let i = c.self.inside in
    let walk = walk_of i.rule i.start i.numbers.items _ r c.self.view_is c.loop-day.invariant.0 in
    let next : to_z w64 (of_z w64 (to_z w64 (of_z w64 c.args.to) +ℤ pos 1)) ≡ c.args.to +ℤ pos 1 = omega (arith, ints, c.requires.next.0, c.requires.next.1) in
    let first = rw next at c.in-Some.ensures.first in
    let d : ℤ = to_z w64 c.loop-day.day-bits in
    let found = c.in-Some.allowed in
    let result = c.fitting_day-day-in-Some.result in
    let e = c.fitting_day-day-in-Some.ensures in
    let low : c.args.from ≤ℤ d = omega (arith, ints, c.loop-day.invariant.3, to_z-of_z c.ranges.from) in
    let back : to_z w64 (of_z w64 found) ≡ found = omega (arith, ints, first.0, first.1, low, c.requires.from.0, c.requires.next.1) in
    let same : to_z w64 (of_z w64 result) ≡ result =
    omega (arith, ints, back, first.0, first.1, e.late, e.near, low, c.requires.from.0, c.requires.next.1) in
    let allowed = rw (walk.of_rule, walk.of_start) at c.self.invariant.of_allowed in
    rw same (
      record { rule = walk.of_rule; kind = sym walk.moments; start = walk.of_start },
      subst (λ q. KnowsUnitOffsets q c.loop-day.sets) (sym c.self.view_is) c.loop-day.invariant.1,
      c.loop-day.invariant.2,
      omega (arith, ints, back, first.0, e.late, c.loop-day.invariant.3),
      omega (arith, ints, back, first.1, e.near, c.requires.next.1),
      fine_more r i.allowed allowed (to_z w64 (of_z w64 c.args.from)) d c.args.to c.loop-day.invariant.5 found result first
          (rw (back, walk.of_rule, walk.of_start) at e.none),
    )

pub on_day-requires-clause-allowed : goal.on_day-requires-clause-allowed
on_day-requires-clause-allowed c =
    let i = c.self.inside in
    let next : to_z w64 (of_z w64 (to_z w64 (of_z w64 c.args.to) +ℤ pos 1)) ≡ c.args.to +ℤ pos 1 = omega (arith, ints, c.requires.next.0, c.requires.next.1) in
    let first = rw next at c.in-Some.ensures.first in
    let d : ℤ = to_z w64 c.loop-day.day-bits in
    let found = c.in-Some.allowed in
    let low : c.args.from ≤ℤ d = omega (arith, ints, c.loop-day.invariant.3, to_z-of_z c.ranges.from) in
    let back : to_z w64 (of_z w64 found) ≡ found = omega (arith, ints, first.0, first.1, low, c.requires.from.0, c.requires.next.1) in
    let same : found ≡ d = omega (arith, ints, back, first.0, c.if-day-allowed.false) in
    fine_some (ruling_of i.rule Moments i.start i.numbers.items) i.allowed c.self.invariant.of_allowed d (c.args.to +ℤ pos 1) found same first

pub on_day-requires-clause-knows : goal.on_day-requires-clause-knows
on_day-requires-clause-knows c = subst (λ q. KnowsUnitOffsets q c.loop-day.sets) (sym c.self.view_is) c.loop-day.invariant.1

pub returns-in_err-found-in-Some-2-clause-kept : goal.returns-in_err-found-in-Some-2-clause-kept
returns-in_err-found-in-Some-2-clause-kept c = λ n t e. c.on_day.ensures.kept n t (c.loop-day.invariant.2 n t e)

pub returns-in-Some-3-clause-kept : goal.returns-in-Some-3-clause-kept
returns-in-Some-3-clause-kept c = λ n t e. c.on_day.ensures.kept n t (c.loop-day.invariant.2 n t e)

pub returns-in-Some-3-clause-found : goal.returns-in-Some-3-clause-found
returns-in-Some-3-clause-found c =
    let r = c.args.self.now in
    let i = c.self.inside in
    let walk = walk_of i.rule i.start i.numbers.items _ r c.self.view_is c.loop-day.invariant.0 in
    let d : ℤ = to_z w64 c.loop-day.day-bits in
    let low : c.args.from ≤ℤ d = omega (arith, ints, c.loop-day.invariant.3, to_z-of_z c.ranges.from) in
    let high : d ≤ℤ c.args.to = omega (arith, ints, c.loop-day-test.true, to_z-of_z c.ranges.to) in
    let none = rw (to_z-of_z c.ranges.from) at c.loop-day.invariant.5 in
    let on = rw (walk.of_rule, walk.of_start) at (rw c.in-Some-3.is at c.in_ok-found-in-Some-2.ensures.found) in
    rw walk.moments (found_first c.on_day.new.sets (chosen_of r.rule Moments r.start) c.args.from d c.args.to c.in-Some-3.found low high none on)

pub loop-day-preserved : goal.loop-day-preserved
loop-day-preserved c =
    let r = c.args.self.now in
    let i = c.self.inside in
    let tree = chosen_of r.rule Moments r.start in
    let walk = walk_of i.rule i.start i.numbers.items _ r c.self.view_is c.loop-day.invariant.0 in
    let d : ℤ = to_z w64 c.loop-day.day-bits in
    let from = to_z w64 (of_z w64 c.args.from) in
    let result = c.fitting_day-day-in-Some-2.result in
    let e = c.fitting_day-day-in-Some-2.ensures in
    let low : c.args.from ≤ℤ d = omega (arith, ints, c.loop-day.invariant.3, to_z-of_z c.ranges.from) in
    let high : d ≤ℤ c.args.to = omega (arith, ints, c.loop-day-test.true, to_z-of_z c.ranges.to) in
    let past : to_z w64 (of_z w64 (d +ℤ pos 1)) ≡ d +ℤ pos 1 = omega (arith, ints, low, high, c.requires.from.0, c.requires.next.1) in
    let same : to_z w64 (of_z w64 result) ≡ result =
    omega (arith, ints, past, e.late, e.near, low, high, c.requires.from.0, c.requires.next.1) in
    let now : IsSameRuling c.on_day.new.self r =
    record {
      rule = c.on_day.ensures.same.rule ∙ walk.of_rule;
      kind = c.on_day.ensures.same.kind ∙ sym walk.moments;
      start = c.on_day.ensures.same.start ∙ walk.of_start;
    } in
    let on = rw (walk.of_rule, walk.of_start) at (rw c.in_default.is at c.in_ok-found-in-Some-2.ensures.found) in
    rw same (
      now,
      c.on_day.ensures.knows,
      λ n t k. c.on_day.ensures.kept n t (c.loop-day.invariant.2 n t k),
      omega (arith, ints, past, e.late, c.loop-day.invariant.3),
      omega (arith, ints, past, high, e.near, c.requires.next.1),
      join tree from (d +ℤ pos 1) result (none_past tree from d c.loop-day.invariant.5 on) (rw (past, now.rule, now.start) at e.none),
    )
