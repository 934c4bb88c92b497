use Rattle.std.proofs.Common.{◌≡◌, ◌≤◌, ℤ, pos, ◌+ℤ◌, ◌≤ℤ◌, refl, arith, w64, to_z, of_z, to_z-of_z, ◌∙◌, FitsSigned, rules}
use Rattle.std.proofs.lemmas.Int.{ints}
use Rattle.std.specs.Prelude.{true}
use Rattle.rr_model.specs.Moment.Units.{is_whole_days, unit_number}
use Rattle.rr_model.specs.declared.kind.Kind.TheVariants.{Days}
use Rattle.rr_walk.proofs.PlainLemmas.{IsLookedUpTo, looked_all, looked_found, looked_more}
use Rattle.rr_walk.proofs.WalkLemmas.{begun, between_near, later, unit_bounds}
use Rattle.rr_walk.proofs.day_rule.DayRule.candidate_in_units.Goals as goal

pub loop-unit-init : goal.loop-unit-init
loop-unit-init c =
    let fits : FitsSigned w64 c.first_unit-unit.result = search rules in
    let same = c.last_unit-last.ensures.same in
    let w = rw (to_z-of_z c.ranges.from, same) at c.first_unit-unit.ensures.walked in
    let p = rw (to_z-of_z c.ranges.from, same) at c.first_unit-unit.ensures.passed in
    rw (to_z-of_z c.ranges.from, to_z-of_z c.ranges.to, to_z-of_z fits)
    (same, record { begun = w.begun; fitting = w.fits; none = λ d g h l. p d g l }, c.first_unit-unit.ensures.near)

-- what is known of the rule beside its start
known : (c : goal.After-first_unit-unit)
    → (is_whole_days c.args.self.now.rule.freq ≡ true) × (1 ≤ c.args.self.now.rule.interval) × (c.args.self.now.rule.interval ≤ 4_294_967_295)
    × (c.args.self.now.rule.week_start ≤ 255)
known c =
    let v = c.self.invariant.valid.valid in
    rw (← c.last_unit-last.ensures.same, ← c.self.view_is) (c.self.invariant.freq, v.interval_low, v.interval_high, omega (arith, v.week_start))

-- the last unit
last_is : (c : goal.After-first_unit-unit) → c.last_unit-last.result ≡ unit_number c.args.self.now.rule.freq c.args.self.now.rule.week_start Days c.args.to
last_is c = rw (to_z-of_z c.ranges.to) at c.last_unit-last.ensures.unit

module _ (c : goal.After-candidate_in-arg-1) where
  abbrev unit : ℤ
  unit = to_z w64 c.loop-unit.unit-bits

  pub looked : IsLookedUpTo c.args.self.now c.args.from c.args.to unit
  looked = rw (to_z-of_z c.ranges.from, to_z-of_z c.ranges.to) at c.loop-unit.invariant.1

  pub not_after : unit ≤ℤ unit_number c.args.self.now.rule.freq c.args.self.now.rule.week_start Days c.args.to
  not_after =
      let fits : FitsSigned w64 c.last_unit-last.result = search rules in
      omega (arith, ints, c.loop-unit-test.true, to_z-of_z fits, last_is c.before.before.before)

pub candidate_in-requires-clause-first : goal.candidate_in-requires-clause-first
candidate_in-requires-clause-first c =
    let r = c.args.self.now in
    let k = known c.before.before.before in
    let near = (between_near r.rule.freq r.rule.week_start k.0 (unit c) c.args.from c.args.to (looked c).begun (not_after c) c.requires.from c.requires.to).0 in
    rw c.loop-unit.invariant.0 (omega (arith, ints, near.0), omega (arith, ints, near.1))

pub candidate_in-requires-clause-begun : goal.candidate_in-requires-clause-begun
candidate_in-requires-clause-begun c =
    let r = c.args.self.now in
    rw (c.loop-unit.invariant.0, to_z-of_z c.ranges.to)
    (begun r.rule.freq r.rule.week_start (known c.before.before.before).0 (unit c) c.args.to (not_after c))

pub candidate_in-requires-clause-over : goal.candidate_in-requires-clause-over
candidate_in-requires-clause-over c =
    let r = c.args.self.now in
    let l = later r.rule.freq r.rule.week_start (known c.before.before.before).0 (unit c +ℤ pos 1) c.args.from (omega (arith, ints, (looked c).begun)) in
    rw (c.loop-unit.invariant.0, to_z-of_z c.ranges.from) (omega (arith, ints, l))

pub candidate_in-requires-clause-fits : goal.candidate_in-requires-clause-fits
candidate_in-requires-clause-fits c = rw c.loop-unit.invariant.0 (looked c).fitting

pub loop-unit-preserved : goal.loop-unit-preserved
loop-unit-preserved c =
    let r = c.args.self.now in
    let b = c.before.before in
    let at = looked b in
    let k = known b.before.before.before in
    let u : ℤ = to_z w64 c.loop-unit.unit-bits in
    let made : c.from-step.result ≡ pos r.rule.interval = rw (← c.last_unit-last.ensures.same, ← c.self.view_is) c.from-step.ensures in
    let step : to_z w64 (of_z w64 c.from-step.result) ≡ pos r.rule.interval = omega (arith, ints, made, k.2) in
    let first_near = unit_bounds r.rule.freq r.rule.week_start k.0 c.args.from k.3 (
      omega (arith, ints, c.requires.from.0),
      omega (arith, ints, c.requires.from.1),
    ) in
    let last_near = unit_bounds r.rule.freq r.rule.week_start k.0 c.args.to k.3 (omega (arith, ints, c.requires.to.0), omega (arith, ints, c.requires.to.1)) in
    let q : to_z w64 (of_z w64 (u +ℤ to_z w64 (of_z w64 c.from-step.result))) ≡ u +ℤ pos r.rule.interval =
    omega (arith, ints, step, not_after b, last_near.1, first_near.0, at.begun, k.2) in
    let none = rw (to_z-of_z c.ranges.from, to_z-of_z c.ranges.to, c.loop-unit.invariant.0) at c.in_default.ensures.first in
    rw (q, to_z-of_z c.ranges.from, to_z-of_z c.ranges.to) (
      c.candidate_in.ensures.same ∙ c.loop-unit.invariant.0,
      looked_more r k.1 c.args.from c.args.to u (u +ℤ pos r.rule.interval) refl at none,
      omega (arith, ints, not_after b, last_near.1, k.2),
    )

pub returns-in-Some-clause-first : goal.returns-in-Some-clause-first
returns-in-Some-clause-first c =
    let r = c.args.self.now in
    let b = c.before.before in
    let u : ℤ = to_z w64 c.loop-unit.unit-bits in
    let some = rw (to_z-of_z c.ranges.from, to_z-of_z c.ranges.to, c.loop-unit.invariant.0) at c.in-Some.ensures.first in
    let q : to_z w64 (of_z w64 c.in-Some.found) ≡ c.in-Some.found = omega (arith, ints, some.1, some.2, c.requires.from.0, c.requires.to.1) in
    rw q (looked_found r (known b.before.before.before).0 c.args.from c.args.to u c.in-Some.found (looked b) some)

pub returns-clause-first : goal.returns-clause-first
returns-clause-first c =
    let r = c.args.self.now in
    let b = c.before.before in
    let u : ℤ = to_z w64 c.loop-unit.unit-bits in
    let fits : FitsSigned w64 c.last_unit-last.result = search rules in
    let at = rw (to_z-of_z c.ranges.from, to_z-of_z c.ranges.to) at c.loop-unit.invariant.1 in
    looked_all r (known b).0 c.args.from c.args.to u at (omega (arith, ints, c.loop-unit-test.false, to_z-of_z fits, last_is b))
