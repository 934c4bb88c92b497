use Rattle.std.proofs.Common.{rules, ◌≡◌, ◌∙◌, refl, sym, arith, to_z-of_z, FitsSigned, w64, to_z, of_z, Some, None, ◌<ℤ◌}
use Rattle.std.proofs.lemmas.Int.{ints}
use Rattle.rr_lazy.specs.Tables.{knows_part_more}
use Rattle.rr_lazy.proofs.WithoutLemmas.{known_filled, given_on, given_some, next_given, next_passed, next_err, not_sooner, fewer_days}
use Rattle.rr_lazy.proofs.without.next_left.Goals as goal

pub days-init : goal.days-init
days-init g c = (refl, c.requires.knows, (λ n t h. h), (λ p k. k))

pub fill-requires-clause-knows : goal.fill-requires-clause-knows
fill-requires-clause-knows g c = c.days.invariant.1

pub returns-in_err-fill-clause-kept : goal.returns-in_err-fill-clause-kept
returns-in_err-fill-clause-kept g c = λ n t h. c.fill.ensures.kept n t (c.days.invariant.2 n t h)

pub returns-in_err-fill-clause-next : goal.returns-in_err-fill-clause-next
returns-in_err-fill-clause-next g c =
    let k = known_filled (g.A.Lazy.tree c.args.part.now.lazy) c.args.kind c.args.dates.now c.args.sets.now c.days.sets c.fill.new.sets
    (g.A.Lazy.position c.args.part.now.lazy) (g.A.Lazy.position c.days.part.lazy) (g.A.Lazy.position c.fill.new.lazy)
    c.args.part.now.ahead c.days.part.ahead c.fill.new.ahead (g.A.Lazy.tree c.days.part.lazy) c.days.invariant.0 c.days.invariant.3 c.fill.ensures.known in
    next_err (g.A.Lazy.tree c.args.part.now.lazy) c.args.kind c.args.dates.now c.args.sets.now c.fill.new.sets (g.A.Lazy.position c.args.part.now.lazy)
    (g.A.Lazy.position c.fill.new.lazy) c.args.to c.args.part.now.ahead c.fill.new.ahead c.from_residual.result c.from_residual.ensures.0
    k

pub returns-in_default-clause-kept : goal.returns-in_default-clause-kept
returns-in_default-clause-kept g c = λ n t h. c.fill.ensures.kept n t (c.days.invariant.2 n t h)

pub returns-in_default-clause-next : goal.returns-in_default-clause-next
returns-in_default-clause-next g c =
    let k = known_filled (g.A.Lazy.tree c.args.part.now.lazy) c.args.kind c.args.dates.now c.args.sets.now c.days.sets c.fill.new.sets
    (g.A.Lazy.position c.args.part.now.lazy) (g.A.Lazy.position c.days.part.lazy) (g.A.Lazy.position c.fill.new.lazy)
    c.args.part.now.ahead c.days.part.ahead c.fill.new.ahead (g.A.Lazy.tree c.days.part.lazy) c.days.invariant.0 c.days.invariant.3 c.fill.ensures.known in
    (λ f e. absurd (c.in_default.not-Some f e), rw (to_z-of_z c.ranges.to) at c.in_ok-fill.ensures.none, k)

pub returns-then-found-to-clause-kept : goal.returns-then-found-to-clause-kept
returns-then-found-to-clause-kept g c = λ n t h. c.fill.ensures.kept n t (c.days.invariant.2 n t h)

pub returns-then-found-to-clause-next : goal.returns-then-found-to-clause-next
returns-then-found-to-clause-next g c =
    let k = known_filled (g.A.Lazy.tree c.args.part.now.lazy) c.args.kind c.args.dates.now c.args.sets.now c.days.sets c.fill.new.sets
    (g.A.Lazy.position c.args.part.now.lazy) (g.A.Lazy.position c.days.part.lazy) (g.A.Lazy.position c.fill.new.lazy)
    c.args.part.now.ahead c.days.part.ahead c.fill.new.ahead (g.A.Lazy.tree c.days.part.lazy) c.days.invariant.0 c.days.invariant.3 c.fill.ensures.known in
    let fits : FitsSigned w64 c.in-Some.found.day = search rules in
    let later : c.args.to <ℤ c.in-Some.found.day = omega (arith, ints, to_z-of_z fits, to_z-of_z c.ranges.to, c.if-found-to.true) in (
      λ f e. (let j : Some c.in-Some.found ≡ Some f = sym c.in-Some.is ∙ e in let i : f ≡ c.in-Some.found = cc in rw i later),
      λ e. (let j : Some c.in-Some.found ≡ None = sym c.in-Some.is ∙ e in absurd (cc)),
      k,
    )

pub left_of-requires-clause-given : goal.left_of-requires-clause-given
left_of-requires-clause-given g c =
    let k = known_filled (g.A.Lazy.tree c.args.part.now.lazy) c.args.kind c.args.dates.now c.args.sets.now c.days.sets c.fill.new.sets
    (g.A.Lazy.position c.args.part.now.lazy) (g.A.Lazy.position c.days.part.lazy) (g.A.Lazy.position c.fill.new.lazy)
    c.args.part.now.ahead c.days.part.ahead c.fill.new.ahead (g.A.Lazy.tree c.days.part.lazy) c.days.invariant.0 c.days.invariant.3 c.fill.ensures.known in
    let m = rw c.in-Some.is at k in
    given_on (g.A.Lazy.tree c.args.part.now.lazy) c.args.kind c.args.dates.now c.fill.new.sets (g.A.Lazy.position c.fill.new.lazy) c.requires.known.0
    c.in-Some.found (m c.requires.known.0 c.requires.known.1)

pub left_of-requires-clause-some : goal.left_of-requires-clause-some
left_of-requires-clause-some g c =
    let k = known_filled (g.A.Lazy.tree c.args.part.now.lazy) c.args.kind c.args.dates.now c.args.sets.now c.days.sets c.fill.new.sets
    (g.A.Lazy.position c.args.part.now.lazy) (g.A.Lazy.position c.days.part.lazy) (g.A.Lazy.position c.fill.new.lazy)
    c.args.part.now.ahead c.days.part.ahead c.fill.new.ahead (g.A.Lazy.tree c.days.part.lazy) c.days.invariant.0 c.days.invariant.3 c.fill.ensures.known in
    let m = rw c.in-Some.is at k in
    given_some (g.A.Lazy.tree c.args.part.now.lazy) c.args.kind c.args.dates.now c.fill.new.sets (g.A.Lazy.position c.fill.new.lazy) c.requires.known.0
    c.in-Some.found (m c.requires.known.0 c.requires.known.1)

pub returns-in_err-left-clause-kept : goal.returns-in_err-left-clause-kept
returns-in_err-left-clause-kept g c = λ n t h. c.left_of.ensures.kept n t (c.fill.ensures.kept n t (c.days.invariant.2 n t h))

pub returns-in_err-left-clause-next : goal.returns-in_err-left-clause-next
returns-in_err-left-clause-next g c =
    let k = known_filled (g.A.Lazy.tree c.args.part.now.lazy) c.args.kind c.args.dates.now c.args.sets.now c.days.sets c.fill.new.sets
    (g.A.Lazy.position c.args.part.now.lazy) (g.A.Lazy.position c.days.part.lazy) (g.A.Lazy.position c.fill.new.lazy)
    c.args.part.now.ahead c.days.part.ahead c.fill.new.ahead (g.A.Lazy.tree c.days.part.lazy) c.days.invariant.0 c.days.invariant.3 c.fill.ensures.known in
    next_err (g.A.Lazy.tree c.args.part.now.lazy) c.args.kind c.args.dates.now c.args.sets.now c.left_of.new.sets (g.A.Lazy.position c.args.part.now.lazy)
    (g.A.Lazy.position c.fill.new.lazy) c.args.to c.args.part.now.ahead c.fill.new.ahead c.from_residual-in_err-left.result
    c.from_residual-in_err-left.ensures.0
    (λ p x. knows_part_more c.fill.new.sets c.left_of.new.sets (g.A.Lazy.tree c.args.part.now.lazy) (g.A.Lazy.position c.fill.new.lazy) c.args.kind
    c.args.dates.now p c.fill.new.ahead c.left_of.ensures.kept (k p x))

pub returns-then-is_some-clause-knows : goal.returns-then-is_some-clause-knows
returns-then-is_some-clause-knows g c =
    g.met.A.Lazy.knows_more c.fill.new.lazy c.fill.new.sets c.left_of.new.sets c.left_of.ensures.kept c.fill.ensures.knows

pub returns-then-is_some-clause-kept : goal.returns-then-is_some-clause-kept
returns-then-is_some-clause-kept g c = λ n t h. c.left_of.ensures.kept n t (c.fill.ensures.kept n t (c.days.invariant.2 n t h))

pub returns-then-is_some-clause-next : goal.returns-then-is_some-clause-next
returns-then-is_some-clause-next g c =
    let k = known_filled (g.A.Lazy.tree c.args.part.now.lazy) c.args.kind c.args.dates.now c.args.sets.now c.days.sets c.fill.new.sets
    (g.A.Lazy.position c.args.part.now.lazy) (g.A.Lazy.position c.days.part.lazy) (g.A.Lazy.position c.fill.new.lazy)
    c.args.part.now.ahead c.days.part.ahead c.fill.new.ahead (g.A.Lazy.tree c.days.part.lazy) c.days.invariant.0 c.days.invariant.3 c.fill.ensures.known in
    let m = rw c.in-Some.is at k in
    let fits : FitsSigned w64 c.in-Some.found.day = search rules in
    next_given (g.A.Lazy.tree c.args.part.now.lazy) c.args.kind c.args.dates.now c.args.sets.now c.fill.new.sets (g.A.Lazy.position c.args.part.now.lazy)
    (g.A.Lazy.position c.fill.new.lazy) c.args.to c.args.part.now.ahead c.in-Some.found m c.left_of.new.sets c.in_ok-left.left c.in_ok-left.ensures.left
    (sym c.is_some.ensures ∙ c.if-is_some.true) (omega (arith, ints, to_z-of_z fits, to_z-of_z c.ranges.to, c.if-found-to.false))

pub days-preserved : goal.days-preserved
days-preserved g c =
    let k = known_filled (g.A.Lazy.tree c.args.part.now.lazy) c.args.kind c.args.dates.now c.args.sets.now c.days.sets c.fill.new.sets
    (g.A.Lazy.position c.args.part.now.lazy) (g.A.Lazy.position c.days.part.lazy) (g.A.Lazy.position c.fill.new.lazy)
    c.args.part.now.ahead c.days.part.ahead c.fill.new.ahead (g.A.Lazy.tree c.days.part.lazy) c.days.invariant.0 c.days.invariant.3 c.fill.ensures.known in
    let m = rw c.in-Some.is at k in (
      c.fill.ensures.tree ∙ c.days.invariant.0,
      g.met.A.Lazy.knows_more c.fill.new.lazy c.fill.new.sets c.left_of.new.sets c.left_of.ensures.kept c.fill.ensures.knows,
      λ n t h. c.left_of.ensures.kept n t (c.fill.ensures.kept n t (c.days.invariant.2 n t h)),
      next_passed (g.A.Lazy.tree c.args.part.now.lazy) c.args.kind c.args.dates.now c.args.sets.now c.fill.new.sets (g.A.Lazy.position c.args.part.now.lazy)
          (g.A.Lazy.position c.fill.new.lazy) c.args.to c.args.part.now.ahead c.in-Some.found m c.left_of.new.sets c.in_ok-left.left c.in_ok-left.ensures.left
          (sym c.is_some.ensures ∙ c.if-is_some.false),
    )

pub days-smaller : goal.days-smaller
days-smaller g c =
    let n = not_sooner (g.A.Lazy.tree c.args.part.now.lazy) c.args.kind c.args.dates.now c.args.sets.now c.days.sets c.fill.new.sets
    (g.A.Lazy.position c.args.part.now.lazy) (g.A.Lazy.position c.days.part.lazy) (g.A.Lazy.position c.fill.new.lazy)
    c.args.part.now.ahead c.days.part.ahead c.fill.new.ahead
    (g.A.Lazy.tree c.days.part.lazy) c.days.invariant.0 c.days.invariant.3 c.fill.ensures.known c.requires.known.0 c.requires.known.1 c.in-Some.found
    c.in-Some.is in
    let fits : FitsSigned w64 c.in-Some.found.day = search rules in
    fewer_days _ c.in-Some.found.day c.args.to (to_z w64 (of_z w64 c.args.to)) _ (to_z-of_z c.ranges.to) n.0
    (omega (arith, ints, to_z-of_z fits, to_z-of_z c.ranges.to, c.if-found-to.false)) n.1
