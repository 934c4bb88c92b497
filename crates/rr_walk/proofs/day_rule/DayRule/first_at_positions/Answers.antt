use Rattle.std.proofs.Common.{◌≡◌, ◌≤◌, ◌∙◌, true, false, ℤ, pos, ◌+ℤ◌, ◌≤ℤ◌, ◌<ℤ◌}
use Rattle.std.proofs.Common.{refl, sym, inl, inr, arith, w64, to_z, of_z, to_z-of_z, FitsSigned, rules}
use Rattle.std.proofs.lemmas.Bool.{false≢true}
use Rattle.std.proofs.lemmas.Int.{by_lt_z, ints}
use Rattle.rr_model.specs.Moment.Units.{unit_number}
use Rattle.rr_model.specs.declared.kind.Kind.TheVariants.{Days}
use Rattle.rr_lazy.specs.Next.{with_set}
use Rattle.rr_walk.specs.Ruling.{IsSameRuling}
use Rattle.rr_walk.proofs.PositionDayLemmas.{same_is, same_ruling}
use Rattle.rr_walk.proofs.WalkLemmas.{unit_bounds, between_near, walked_more, walked_found, walked_past, walked_all}
use Rattle.rr_walk.proofs.day_rule.DayRule.first_at_positions.Goals as goal
use Rattle.rr_walk.proofs.day_rule.DayRule.first_at_positions.Goals.{After-begins_by}

pub loop-alloc-init : goal.loop-alloc-init
loop-alloc-init c =
    let fits : FitsSigned w64 c.first_unit-unit.result = search rules in
    let w = rw (to_z-of_z c.ranges.from) at c.first_unit-unit.ensures.walked in
    rw (to_z-of_z c.ranges.from, to_z-of_z fits) (
      same_is c.args.self.now c.args.self.now refl,
      c.requires.knows,
      (λ n t e. e),
      w,
      c.first_unit-unit.ensures.near,
    )

module _ (c : After-begins_by) where
  -- the question whether the unit has begun changes nothing
  pub same : IsSameRuling c.begins_by.new.self c.args.self.now
  same = same_ruling c.begins_by.new.self c.loop-alloc.self c.args.self.now
      (same_is c.begins_by.new.self c.loop-alloc.self c.begins_by.ensures.same) c.loop-alloc.invariant.0

  -- the number of the last day's unit
  abbrev pub last : ℤ
  last = unit_number c.args.self.now.rule.freq c.args.self.now.rule.week_start Days c.args.to

  pub not_after : c.begins_by.result ≡ true → to_z w64 c.loop-alloc.unit-bits ≤ℤ last
  not_after e = rw (c.loop-alloc.invariant.0.rule, to_z-of_z c.ranges.to) at (c.begins_by.ensures.begun.0 e)

  pub after : c.begins_by.result ≡ false → last <ℤ to_z w64 c.loop-alloc.unit-bits
  after e =
      let P : Type 0 = last <ℤ to_z w64 c.loop-alloc.unit-bits in
      let back = rw (c.loop-alloc.invariant.0.rule, to_z-of_z c.ranges.to) at c.begins_by.ensures.begun.1 in
      by_lt_z {P = P} last (to_z w64 c.loop-alloc.unit-bits) (λ l. l) (λ g. absurd (false≢true (sym e ∙ back g)))

pub first_in-requires-clause-positions : goal.first_in-requires-clause-positions
first_in-requires-clause-positions c = rw (same (goal.at.first_in-requires-clause-positions c).After-begins_by).rule c.requires.positions

pub first_in-requires-clause-first : goal.first_in-requires-clause-first
first_in-requires-clause-first c =
    let r = c.args.self.now in
    let known = rw c.self.view_is at c.self.invariant in
    let w = rw (to_z-of_z c.ranges.from) at c.loop-alloc.invariant.3 in
    rw (same (goal.at.first_in-requires-clause-first c).After-begins_by).rule
    (between_near r.rule.freq r.rule.week_start known.freq (to_z w64 c.loop-alloc.unit-bits) c.args.from c.args.to w.begun
    (not_after (goal.at.first_in-requires-clause-first c).After-begins_by c.loop-alloc-test.true) c.requires.from c.requires.to).0

pub first_in-requires-clause-next : goal.first_in-requires-clause-next
first_in-requires-clause-next c =
    let r = c.args.self.now in
    let known = rw c.self.view_is at c.self.invariant in
    let w = rw (to_z-of_z c.ranges.from) at c.loop-alloc.invariant.3 in
    rw (same (goal.at.first_in-requires-clause-next c).After-begins_by).rule
    (between_near r.rule.freq r.rule.week_start known.freq (to_z w64 c.loop-alloc.unit-bits) c.args.from c.args.to w.begun
    (not_after (goal.at.first_in-requires-clause-next c).After-begins_by c.loop-alloc-test.true) c.requires.from c.requires.to).1

pub first_in-requires-clause-fits : goal.first_in-requires-clause-fits
first_in-requires-clause-fits c =
    let s = same (goal.at.first_in-requires-clause-fits c).After-begins_by in
    rw (s.rule, s.kind, s.start) (rw (to_z-of_z c.ranges.from) at c.loop-alloc.invariant.3).fits

pub first_in-requires-clause-knows : goal.first_in-requires-clause-knows
first_in-requires-clause-knows c = rw c.begins_by.ensures.same c.loop-alloc.invariant.1

pub returns-in_err-first_in-clause-same : goal.returns-in_err-first_in-clause-same
returns-in_err-first_in-clause-same c =
    same_ruling c.first_in.new.self c.begins_by.new.self c.args.self.now c.first_in.ensures.same
    (same (goal.at.returns-in_err-first_in-clause-same c).After-begins_by)

pub returns-in_err-first_in-clause-kept : goal.returns-in_err-first_in-clause-kept
returns-in_err-first_in-clause-kept c n t e = c.first_in.ensures.kept n t (c.loop-alloc.invariant.2 n t e)

pub returns-in-Some-clause-same : goal.returns-in-Some-clause-same
returns-in-Some-clause-same c =
    same_ruling c.first_in.new.self c.begins_by.new.self c.args.self.now c.first_in.ensures.same
    (same (goal.at.returns-in-Some-clause-same c).After-begins_by)

pub returns-in-Some-clause-kept : goal.returns-in-Some-clause-kept
returns-in-Some-clause-kept c n t e = c.first_in.ensures.kept n t (c.loop-alloc.invariant.2 n t e)

pub returns-in-Some-clause-found : goal.returns-in-Some-clause-found
returns-in-Some-clause-found c =
    let r = c.args.self.now in
    let known = rw c.self.view_is at c.self.invariant in
    let u : ℤ = to_z w64 c.loop-alloc.unit-bits in
    let from = to_z-of_z c.ranges.from in
    let s = same (goal.at.returns-in-Some-clause-found c).After-begins_by in
    let some = rw (from, s.rule, s.kind, s.start) at (rw c.in-Some.is at c.in_ok-first_in.ensures.found) in
    let w = rw from at c.loop-alloc.invariant.3 in
    let found = with_set c.first_in.new.sets c.in-Some.found in
    elim (rw (to_z-of_z c.ranges.to) at c.up_to.ensures) [
      | inl h ↦ rw h.0
          (some.0, (walked_found r.rule r.kind r.start known.freq known.valid.valid.interval_low c.args.from u found w some.1, h.1))
      | inr h ↦ rw h.0 (walked_past r.rule r.kind r.start known.freq known.valid.valid.interval_low c.args.from u c.args.to found w some.1 h.1)
    ]

pub loop-alloc-preserved : goal.loop-alloc-preserved
loop-alloc-preserved c =
    let r = c.args.self.now in
    let known = rw c.self.view_is at c.self.invariant in
    let valid = known.valid.valid in
    let low : r.rule.week_start ≤ 255 = omega (arith, valid.week_start) in
    let u : ℤ = to_z w64 c.loop-alloc.unit-bits in
    let from = to_z-of_z c.ranges.from in
    let s = same (goal.at.loop-alloc-preserved c).After-begins_by in
    let made : c.from-step.result ≡ pos c.args.self.now.rule.interval = rw (← c.self.view_is) c.from-step.ensures in
    let step : to_z w64 (of_z w64 c.from-step.result) ≡ pos r.rule.interval = omega (arith, ints, made, valid.interval_high) in
    let w = rw from at c.loop-alloc.invariant.3 in
    let first_near = unit_bounds r.rule.freq r.rule.week_start known.freq c.args.from low (
      omega (arith, ints, c.requires.from.0),
      omega (arith, ints, c.requires.from.1),
    ) in
    let last_near = unit_bounds r.rule.freq r.rule.week_start known.freq c.args.to low (
      omega (arith, ints, c.requires.to.0),
      omega (arith, ints, c.requires.to.1),
    ) in
    let l = not_after (goal.at.loop-alloc-preserved c).After-begins_by c.loop-alloc-test.true in
    let q : to_z w64 (of_z w64 (u +ℤ to_z w64 (of_z w64 c.from-step.result))) ≡ u +ℤ pos r.rule.interval =
    omega (arith, ints, step, l, last_near.1, first_near.0, w.begun, valid.interval_high) in
    let none = rw (from, s.rule, s.kind, s.start) at (rw c.in-None.is at c.in_ok-first_in.ensures.found) in
    rw (q, from) (
      same_ruling c.first_in.new.self c.begins_by.new.self r c.first_in.ensures.same s,
      c.first_in.ensures.knows,
      (λ n t e. c.first_in.ensures.kept n t (c.loop-alloc.invariant.2 n t e)),
      walked_more r.rule r.kind r.start known.freq valid.interval_low c.args.from u (u +ℤ pos r.rule.interval) refl w none,
      omega (arith, ints, l, last_near.1, valid.interval_high),
    )

pub returns-clause-same : goal.returns-clause-same
returns-clause-same c = same (goal.at.returns-clause-same c).After-begins_by

pub returns-clause-knows : goal.returns-clause-knows
returns-clause-knows c = rw c.begins_by.ensures.same c.loop-alloc.invariant.1

pub returns-clause-found : goal.returns-clause-found
returns-clause-found c =
    let r = c.args.self.now in
    let known = rw c.self.view_is at c.self.invariant in
    let u : ℤ = to_z w64 c.loop-alloc.unit-bits in
    let w = rw (to_z-of_z c.ranges.from) at c.loop-alloc.invariant.3 in
    walked_all r.rule r.kind r.start known.freq known.valid.valid.interval_low c.args.from u c.args.to w
    (after (goal.at.returns-clause-found c).After-begins_by c.loop-alloc-test.false)
