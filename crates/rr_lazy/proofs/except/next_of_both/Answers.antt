use Rattle.std.proofs.Common.{rules, ◌≡◌, ◌∙◌, refl, sym, subst, arith, to_z-of_z, FitsSigned, w64, to_z, of_z, List, ℕ, ℤ, Some, None, pos, ◌<ℤ◌, ◌≤ℤ◌, ◌+ℤ◌}
use Rattle.std.proofs.lemmas.Int.{ints}
use Rattle.rr_lazy.specs.declared.occupied_day.OccupiedDay.{OccupiedDay}
use Rattle.rr_lazy.specs.Except.{IsAheadUpTo, IsLeftBy, KnowsBoth}
use Rattle.rr_lazy.specs.Parts.{Part, part_of}
use Rattle.rr_lazy.proofs.FirstLemmas.{first_day_is}
use Rattle.rr_lazy.proofs.WithoutLemmas.{fewer_days, next_day}
use Rattle.rr_lazy.proofs.ExceptLemmas.{both_err, given_late, given_on, given_some, known_filled, next_given, next_kept, next_passed, not_sooner, out_to_day}
use Rattle.rr_lazy.proofs.except.next_of_both.Given.{Over}
use Rattle.rr_lazy.proofs.except.next_of_both.Goals.{After-fill, After-left-in-days-1, After-left_of, After-left_of-arg-in-days-2-1}
use Rattle.rr_lazy.proofs.except.next_of_both.Goals as goal

pub days-init : goal.days-init
days-init g c = (refl, refl, c.requires.knows_a, c.requires.knows_b, (λ n t h. h), (λ p k. k))

-- ---- once the first part was asked

-- the parts as the call found them
abbrev a_first : (g : Over) (c : After-fill g) → Part
a_first g c = part_of (g.A.Lazy.tree c.args.a.now.lazy) (g.A.Lazy.position c.args.a.now.lazy) c.args.a.now.ahead

abbrev b_first : (g : Over) (c : After-fill g) → Part
b_first g c = part_of (g.B.Lazy.tree c.args.b.now.lazy) (g.B.Lazy.position c.args.b.now.lazy) c.args.b.now.ahead

-- the second part as this turn found it
abbrev b_now : (g : Over) (c : After-fill g) → Part
b_now g c = part_of (g.B.Lazy.tree c.args.b.now.lazy) (g.B.Lazy.position c.days.b.lazy) c.days.b.ahead

-- what was known of the parts at first is known of these
abbrev Knows : (g : Over) (c : After-fill g) → List (List ℕ) → Part → Part → Type 0
Knows g c sets a b = (position : ℤ) → KnowsBoth c.args.sets.now (a_first g c) (b_first g c) position → KnowsBoth sets a b position

record Asked (g : Over) (c : After-fill g) : Type 0 where
  known : Knows g c c.fill.new.sets (part_of (g.A.Lazy.tree c.args.a.now.lazy) (g.A.Lazy.position c.fill.new.lazy) c.fill.new.ahead) (b_now g c)
  later : (position : ℤ) → KnowsBoth c.args.sets.now (a_first g c) (b_first g c) position → (found : OccupiedDay) → c.fill.new.ahead ≡ Some found
      → (next_day c.days.a.ahead (g.A.Lazy.position c.days.a.lazy) ≤ℤ found.day) × (g.A.Lazy.position c.fill.new.lazy ≡ found.day +ℤ pos 1)

asked : (g : Over) (c : After-fill g) → Asked g c
asked g c =
    let tree = g.A.Lazy.tree c.args.a.now.lazy in
    let out = g.B.Lazy.tree c.args.b.now.lazy in
    let i = c.days.invariant in
    record {
      known = known_filled tree out c.args.sets.now c.days.sets c.fill.new.sets (a_first g c) (b_first g c) (b_now g c) (g.A.Lazy.position c.days.a.lazy)
          (g.A.Lazy.position c.fill.new.lazy) c.days.a.ahead c.fill.new.ahead (g.A.Lazy.tree c.days.a.lazy) i.0 i.5 c.fill.ensures.known c.fill.ensures.kept;
      later = not_sooner tree out c.args.sets.now c.days.sets c.fill.new.sets (a_first g c) (b_first g c) (b_now g c) (g.A.Lazy.position c.days.a.lazy)
          (g.A.Lazy.position c.fill.new.lazy) c.days.a.ahead c.fill.new.ahead (g.A.Lazy.tree c.days.a.lazy) i.0 i.5 c.fill.ensures.known c.fill.ensures.kept;
    }

pub returns-in_err-fill-clause-next : goal.returns-in_err-fill-clause-next
returns-in_err-fill-clause-next g c =
    both_err c.args.sets.now c.fill.new.sets _ _ _ _ c.args.to c.from_residual.result c.from_residual.ensures.0
    (asked g (goal.at.returns-in_err-fill-clause-next g c).After-fill).known

pub returns-in_default-clause-next : goal.returns-in_default-clause-next
returns-in_default-clause-next g c = (
  λ f e. absurd (c.in_default.not-Some f e),
  rw (to_z-of_z c.ranges.to) at c.in_ok-fill.ensures.none,
  (asked g (goal.at.returns-in_default-clause-next g c).After-fill).known,
)

pub returns-then-found-to-clause-next : goal.returns-then-found-to-clause-next
returns-then-found-to-clause-next g c =
    let fits : FitsSigned w64 c.in-Some.found.day = search rules in
    let later : c.args.to <ℤ c.in-Some.found.day = omega (arith, ints, to_z-of_z fits, to_z-of_z c.ranges.to, c.if-found-to.true) in (
      λ f e. (let j : Some c.in-Some.found ≡ Some f = sym c.in-Some.is ∙ e in let i : f ≡ c.in-Some.found = cc in rw i later),
      λ e. (let j : Some c.in-Some.found ≡ None = sym c.in-Some.is ∙ e in absurd (cc)),
      (asked g (goal.at.returns-then-found-to-clause-next g c).After-fill).known,
    )

-- ---- once it gave a day up to the last one

record Given (g : Over) (c : After-left_of-arg-in-days-2-1 g) : Type 0 where
  known : Knows g (goal.at.left_of-requires-clause-low g c).After-fill c.fill.new.sets
      (part_of (g.A.Lazy.tree c.args.a.now.lazy) (g.A.Lazy.position c.fill.new.lazy) (Some c.in-Some.found))
      (b_now g (goal.at.left_of-requires-clause-low g c).After-fill)
  at_first : KnowsBoth c.fill.new.sets (part_of (g.A.Lazy.tree c.args.a.now.lazy) (g.A.Lazy.position c.fill.new.lazy) (Some c.in-Some.found))
      (b_now g (goal.at.left_of-requires-clause-low g c).After-fill) c.requires.known.0

given : (g : Over) (c : After-left_of-arg-in-days-2-1 g) → Given g c
given g c =
    let known = rw c.in-Some.is at (asked g (goal.at.left_of-requires-clause-low g c).After-fill).known in
    record { known = known; at_first = known c.requires.known.0 c.requires.known.2 }

pub left_of-requires-clause-low : goal.left_of-requires-clause-low
left_of-requires-clause-low g c =
    let late = given_late _ (g.B.Lazy.tree c.args.b.now.lazy) _ _ _ _ _ (given g c).at_first in
    omega (arith, ints, late, rw first_day_is at c.requires.known.1)

pub left_of-requires-clause-known : goal.left_of-requires-clause-known
left_of-requires-clause-known g c =
    subst (λ t. IsAheadUpTo c.fill.new.sets (part_of t (g.B.Lazy.position c.days.b.lazy) c.days.b.ahead) c.in-Some.found.day) (sym c.days.invariant.1)
    (out_to_day _ (g.B.Lazy.tree c.args.b.now.lazy) _ _ _ _ _ (given g c).at_first)

pub left_of-requires-clause-given : goal.left_of-requires-clause-given
left_of-requires-clause-given g c = given_on _ (g.B.Lazy.tree c.args.b.now.lazy) _ _ _ _ _ (given g c).at_first

pub left_of-requires-clause-some : goal.left_of-requires-clause-some
left_of-requires-clause-some g c = given_some _ (g.B.Lazy.tree c.args.b.now.lazy) _ _ _ _ _ (given g c).at_first

-- ---- once it was asked what is left of that day

out_known : (g : Over) (c : After-left_of g)
    → IsAheadUpTo c.left_of.new.sets (part_of (g.B.Lazy.tree c.args.b.now.lazy) (g.B.Lazy.position c.left_of.new.lazy) c.left_of.new.ahead)
    c.in-Some.found.day
out_known g c = subst (λ t. IsAheadUpTo c.left_of.new.sets (part_of t (g.B.Lazy.position c.left_of.new.lazy) c.left_of.new.ahead) c.in-Some.found.day)
    c.days.invariant.1 c.left_of.ensures.known

left_is : (g : Over) (c : After-left-in-days-1 g)
    → IsLeftBy c.fill.new.sets (g.B.Lazy.tree c.args.b.now.lazy) c.in-Some.found c.left_of.new.sets c.in_ok-left.left
left_is g c = subst (λ t. IsLeftBy c.fill.new.sets t c.in-Some.found c.left_of.new.sets c.in_ok-left.left) c.days.invariant.1 c.in_ok-left.ensures.left

pub returns-in_err-left-clause-knows_a : goal.returns-in_err-left-clause-knows_a
returns-in_err-left-clause-knows_a g c =
    g.met.A.Lazy.knows_more c.fill.new.lazy c.fill.new.sets c.left_of.new.sets c.left_of.ensures.kept c.fill.ensures.knows

pub returns-in_err-left-clause-kept : goal.returns-in_err-left-clause-kept
returns-in_err-left-clause-kept g c = λ n t h. c.left_of.ensures.kept n t (c.fill.ensures.kept n t (c.days.invariant.4 n t h))

pub returns-in_err-left-clause-next : goal.returns-in_err-left-clause-next
returns-in_err-left-clause-next g c =
    let at = goal.at.returns-in_err-left-clause-next g c in
    both_err c.args.sets.now c.left_of.new.sets _ _ _ _ c.args.to c.from_residual-in_err-left.result c.from_residual-in_err-left.ensures.0
    (rw c.in-Some.is (next_kept _ _ _ _ _ _ _ _ refl refl refl _ _ c.args.to _ _ (given g at.After-left_of-arg-in-days-2-1).known
    (out_known g at.After-left_of) c.left_of.ensures.kept))

pub returns-then-is_some-clause-knows_a : goal.returns-then-is_some-clause-knows_a
returns-then-is_some-clause-knows_a g c =
    g.met.A.Lazy.knows_more c.fill.new.lazy c.fill.new.sets c.left_of.new.sets c.left_of.ensures.kept c.fill.ensures.knows

pub returns-then-is_some-clause-kept : goal.returns-then-is_some-clause-kept
returns-then-is_some-clause-kept g c = λ n t h. c.left_of.ensures.kept n t (c.fill.ensures.kept n t (c.days.invariant.4 n t h))

pub returns-then-is_some-clause-next : goal.returns-then-is_some-clause-next
returns-then-is_some-clause-next g c =
    let at = goal.at.returns-then-is_some-clause-next g c in
    let fits : FitsSigned w64 c.in-Some.found.day = search rules in
    next_given _ _ _ _ _ _ _ _ refl refl refl _ _ c.args.to _ _ (given g at.After-left_of-arg-in-days-2-1).known (out_known g at.After-left_of)
    c.in_ok-left.left (left_is g at.After-left-in-days-1) (sym c.is_some.ensures ∙ c.if-is_some.true)
    (omega (arith, ints, to_z-of_z fits, to_z-of_z c.ranges.to, c.if-found-to.false))

pub days-preserved : goal.days-preserved
days-preserved g c =
    let at = goal.at.days-preserved g c in (
      c.fill.ensures.tree ∙ c.days.invariant.0,
      c.left_of.ensures.tree ∙ c.days.invariant.1,
      g.met.A.Lazy.knows_more c.fill.new.lazy c.fill.new.sets c.left_of.new.sets c.left_of.ensures.kept c.fill.ensures.knows,
      c.left_of.ensures.knows,
      λ n t h. c.left_of.ensures.kept n t (c.fill.ensures.kept n t (c.days.invariant.4 n t h)),
      next_passed _ _ _ _ _ _ _ _ refl refl refl _ _ c.args.to _ _ (given g at.After-left_of-arg-in-days-2-1).known (out_known g at.After-left_of)
          c.in_ok-left.left (left_is g at.After-left-in-days-1) (sym c.is_some.ensures ∙ c.if-is_some.false),
    )

pub days-smaller : goal.days-smaller
days-smaller g c =
    let n = (asked g (goal.at.days-smaller g c).After-fill).later c.requires.known.0 c.requires.known.2 c.in-Some.found c.in-Some.is in
    let fits : FitsSigned w64 c.in-Some.found.day = search rules in
    fewer_days _ c.in-Some.found.day c.args.to (to_z w64 (of_z w64 c.args.to)) _ (to_z-of_z c.ranges.to) n.0
    (omega (arith, ints, to_z-of_z fits, to_z-of_z c.ranges.to, c.if-found-to.false)) n.1
