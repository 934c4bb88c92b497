use Rattle.std.proofs.Common.{◌≡◌, ◌∙◌, ℤ, pos, ◌+ℤ◌, refl, to_z, of_z, w64, arith, to_z-of_z}
use Rattle.std.specs.Prelude.{None, Some}
use Rattle.std.proofs.lemmas.Int.{ints}
use Rattle.rr_walk.proofs.PlainLemmas.{first_is, knows_same, none_at_all, none_so_far, same_candidate}
use Rattle.rr_walk.proofs.day_rule.DayRule.first_plain.Goals as goal

pub plain_day-requires-clause-knows : goal.plain_day-requires-clause-knows
plain_day-requires-clause-knows c =
    knows_same c.candidate_from.new.self c.loop-candidate.self c.loop-candidate.sets c.candidate_from.ensures.same c.loop-candidate.invariant.1

pub returns-in_err-plain_day-clause-kept : goal.returns-in_err-plain_day-clause-kept
returns-in_err-plain_day-clause-kept c = λ n t h. c.plain_day.ensures.kept n t (c.loop-candidate.invariant.2 n t h)

pub returns-in-Some-2-clause-kept : goal.returns-in-Some-2-clause-kept
returns-in-Some-2-clause-kept c = λ n t h. c.plain_day.ensures.kept n t (c.loop-candidate.invariant.2 n t h)

pub returns-in-Some-2-clause-found : goal.returns-in-Some-2-clause-found
returns-in-Some-2-clause-found c =
    let r = c.args.self.now in
    let l = c.loop-candidate.self in
    let day : ℤ = to_z w64 c.loop-candidate.day-bits in
    let i = rw (to_z-of_z c.ranges.from) at c.loop-candidate.invariant in
    let at = same_candidate l r day c.args.to (Some c.in-Some.candidate) i.0 (rw (to_z-of_z c.ranges.to) at c.in-Some.ensures.first) in
    let q : to_z w64 (of_z w64 c.in-Some.candidate) ≡ c.in-Some.candidate = omega (arith, ints, at.0, at.1, i.4.0, c.requires.to.1) in
    let on = rw (q, c.candidate_from.ensures.same, i.0.rule, i.0.kind, i.0.start) at (rw c.in-Some-2.is at c.in_ok-plain_day.ensures.found) in
    first_is r c.requires.freq c.args.from day c.args.to i.3 i.5 c.plain_day.new.sets c.in-Some.candidate c.in-Some-2.found at on

pub loop-candidate-preserved : goal.loop-candidate-preserved
loop-candidate-preserved c =
    let r = c.args.self.now in
    let l = c.loop-candidate.self in
    let day : ℤ = to_z w64 c.loop-candidate.day-bits in
    let i = rw (to_z-of_z c.ranges.from) at c.loop-candidate.invariant in
    let at = same_candidate l r day c.args.to (Some c.in-Some.candidate) i.0 (rw (to_z-of_z c.ranges.to) at c.in-Some.ensures.first) in
    let q : to_z w64 (of_z w64 c.in-Some.candidate) ≡ c.in-Some.candidate = omega (arith, ints, at.0, at.1, i.4.0, c.requires.to.1) in
    let next : to_z w64 (of_z w64 (to_z w64 (of_z w64 c.in-Some.candidate) +ℤ pos 1)) ≡ c.in-Some.candidate +ℤ pos 1 =
    omega (arith, ints, q, at.0, at.1, i.4.0, c.requires.to.1) in
    let on = rw (q, c.candidate_from.ensures.same, i.0.rule, i.0.kind, i.0.start) at (rw c.in-None.is at c.in_ok-plain_day.ensures.found) in
    let same = rw c.candidate_from.ensures.same at c.plain_day.ensures.same in
    rw (next, to_z-of_z c.ranges.from) (
      record { rule = same.rule ∙ i.0.rule; kind = same.kind ∙ i.0.kind; start = same.start ∙ i.0.start },
      c.plain_day.ensures.knows,
      (λ n t h. c.plain_day.ensures.kept n t (i.2 n t h)),
      omega (arith, ints, i.3, at.0),
      (omega (arith, ints, i.4.0, at.0), omega (arith, ints, at.1, c.requires.next.1)),
      none_so_far r c.requires.freq c.args.from day c.args.to i.3 i.5 c.in-Some.candidate (c.in-Some.candidate +ℤ pos 1) refl at on,
    )

pub returns-clause-knows : goal.returns-clause-knows
returns-clause-knows c =
    knows_same c.candidate_from.new.self c.loop-candidate.self c.loop-candidate.sets c.candidate_from.ensures.same c.loop-candidate.invariant.1

pub returns-clause-found : goal.returns-clause-found
returns-clause-found c =
    let r = c.args.self.now in
    let day : ℤ = to_z w64 c.loop-candidate.day-bits in
    let i = rw (to_z-of_z c.ranges.from) at c.loop-candidate.invariant in
    none_at_all r c.requires.freq c.args.from day c.args.to i.3 i.5
    (same_candidate c.loop-candidate.self r day c.args.to None i.0 (rw (to_z-of_z c.ranges.to) at c.in_default.ensures.first))
