use Rattle.std.proofs.Common.{◌≡◌, ◌⊎◌, ℤ, pos, ◌+ℤ◌, ◌≤ℤ◌, refl, inl, inr, arith, w64, to_z, of_z, to_z-of_z, ◌∙◌}
use Rattle.std.proofs.lemmas.Int.{ints}
use Rattle.rr_model.specs.Calendar.{IsDayWithin}
use Rattle.rr_model.specs.Moment.{day_part}
use Rattle.rr_lazy.specs.Next.{with_set}
use Rattle.rr_walk.specs.Ruling.{Ruling}
use Rattle.rr_walk.proofs.WalkLemmas.{start_near}
use Rattle.rr_walk.proofs.StepLemmas.{later_is, step_none, step_some}
use Rattle.rr_walk.proofs.chosen.step.Given.{Over}
use Rattle.rr_walk.proofs.chosen.step.Goals as goal

module _ (g : Over) (c : goal.After-first_up_to-arg-2-1 g) where
  -- the rule beside its start
  abbrev r : Ruling
  r = g.W.RuleWalk.ruling c.args.walk.now

  -- the day from which on is looked
  abbrev from : ℤ
  from = c.max-from.result

  pub start_is : (to_z w64 (of_z w64 c.start_day.result) ≡ day_part r.kind r.start) × (day_part r.kind r.start ≤ℤ pos 2_932_896)
  start_is =
      let n = start_near r.kind r.start c.start_day.result c.start_day.ensures c.requires.valid.in_years in
      (omega (arith, ints, n.0, n.1, c.start_day.ensures), omega (arith, ints, n.1, c.start_day.ensures))

  pub position_is : to_z w64 (of_z w64 c.args.position.now) ≡ c.args.position.now
  position_is = omega (arith, ints, c.requires.begun, c.if-position-to.false, c.requires.high)

  pub within : (from ≡ c.args.position.now) ⊎ (from ≡ day_part r.kind r.start)
  within = elim (later_is _ _ _ c.max-from.ensures.value) [ inl e ↦ inl (e ∙ position_is) | inr e ↦ inr (e ∙ start_is.0) ]

  pub late : c.args.position.now ≤ℤ from
  late = omega (arith, ints, position_is, c.max-from.ensures.self_bound)

  pub near : IsDayWithin 0 from
  near = (
    omega (arith, ints, late, c.requires.begun),
    elim within [ inl e ↦ omega (arith, ints, e, c.if-position-to.false, c.requires.high) | inr e ↦ omega (arith, ints, e, start_is.1) ],
  )

pub first_up_to-requires-clause-from : goal.first_up_to-requires-clause-from
first_up_to-requires-clause-from g c = let n = near g c in (omega (arith, ints, n.0, n.1), omega (arith, ints, n.0, n.1))

pub first_up_to-requires-clause-next : goal.first_up_to-requires-clause-next
first_up_to-requires-clause-next g c = rw (to_z-of_z c.ranges.to) (omega (arith, ints, c.requires.low), omega (arith, ints, c.requires.high))

pub returns-in-None-clause-next : goal.returns-in-None-clause-next
returns-in-None-clause-next g c =
    let b = c.before.before.before.before in
    let q = r g b in
    let fits : to_z w64 (of_z w64 c.max-from.result) ≡ c.max-from.result = omega (arith, ints, (near g b).0, (near g b).1) in
    let none = rw (fits, to_z-of_z c.ranges.to) at (rw c.in-None.is at c.in_ok-first_up_to.ensures.found) in
    let next : to_z w64 (of_z w64 (to_z w64 (of_z w64 c.args.to) +ℤ pos 1)) ≡ c.args.to +ℤ pos 1 = omega (arith, ints, c.requires.low, c.requires.high) in
    rw next (
      step_none q.rule q.kind q.start c.args.position.now c.max-from.result c.args.to (within g b) (late g b) none,
      omega (arith, ints, c.if-position-to.false, position_is g b),
      omega (arith, ints),
      inl refl,
    )

pub returns-in-Some-clause-next : goal.returns-in-Some-clause-next
returns-in-Some-clause-next g c =
    let b = c.before.before.before.before.before.before in
    let q = r g b in
    let fits : to_z w64 (of_z w64 c.max-from.result) ≡ c.max-from.result = omega (arith, ints, (near g b).0, (near g b).1) in
    let some = rw (fits, to_z-of_z c.ranges.to) at (rw c.in-Some.is at c.in_ok-first_up_to.ensures.found) in
    let f = step_some q.rule q.kind q.start c.args.position.now c.max-from.result c.args.to (within g b) (late g b)
    (with_set c.first_up_to.new.sets c.in-Some.found) some.1 in
    (some.0, (f, some.1.1, omega (arith, ints, some.1.1, f.late, c.requires.begun, c.requires.high)))

pub returns-in-Some-clause-later : goal.returns-in-Some-clause-later
returns-in-Some-clause-later g c =
    let b = c.before.before.before.before.before.before in
    let q = r g b in
    let fits : to_z w64 (of_z w64 c.max-from.result) ≡ c.max-from.result = omega (arith, ints, (near g b).0, (near g b).1) in
    let some = rw (fits, to_z-of_z c.ranges.to) at (rw c.in-Some.is at c.in_ok-first_up_to.ensures.found) in
    let f = step_some q.rule q.kind q.start c.args.position.now c.max-from.result c.args.to (within g b) (late g b)
    (with_set c.first_up_to.new.sets c.in-Some.found) some.1 in
    omega (arith, ints, some.1.1, f.late, c.requires.begun, c.requires.high)

pub overflow_add-position-in-Some : goal.overflow_add-position-in-Some
overflow_add-position-in-Some g c =
    let b = c.before.before.before.before.before.before in
    let fits : to_z w64 (of_z w64 c.max-from.result) ≡ c.max-from.result = omega (arith, ints, (near g b).0, (near g b).1) in
    let some = rw (fits, to_z-of_z c.ranges.to) at (rw c.in-Some.is at c.in_ok-first_up_to.ensures.found) in
    omega (arith, ints, some.1.1, some.1.0.late, (near g b).0, c.requires.high)
