use Rattle.std.proofs.Common.{rules, ◌∙◌, arith, to_z-of_z, FitsSigned, w64, to_z, of_z, ◌<ℤ◌}
use Rattle.std.proofs.lemmas.Int.{clamps, ints}
use Rattle.rr_lazy.specs.Except.{IsAheadUpTo}
use Rattle.rr_lazy.specs.Parts.{part_of}
use Rattle.rr_lazy.proofs.WithoutLemmas.{fewer_days}
use Rattle.rr_lazy.proofs.ExceptLemmas.{out_filled, out_not_sooner, out_passed}
use Rattle.rr_lazy.proofs.except.pass_to.Given.{Over}
use Rattle.rr_lazy.proofs.except.pass_to.Goals.{After-fill}
use Rattle.rr_lazy.proofs.except.pass_to.Goals as goal

pub days-smaller : goal.days-smaller
days-smaller g c =
    let n = out_not_sooner c.days.sets c.fill.new.sets (g.B.Lazy.tree c.args.lazy.now) (g.B.Lazy.tree c.days.lazy) (g.B.Lazy.position c.days.lazy)
    (g.B.Lazy.position c.fill.new.lazy) (to_z w64 (of_z w64 c.args.day)) c.days.ahead c.fill.new.ahead c.days.invariant.0 c.fill.ensures.known c.days.invariant.3
    c.in-Some.found c.in-Some.is in
    let fits : FitsSigned w64 c.in-Some.found.day = search rules in
    fewer_days _ c.in-Some.found.day c.args.day (to_z w64 (of_z w64 c.args.day)) _ (to_z-of_z c.ranges.day) n.0
    (omega (arith, ints, to_z-of_z fits, to_z-of_z c.ranges.day, c.if-found-day.false)) n.1

pub days-preserved : goal.days-preserved
days-preserved g c =
    let k = out_filled c.days.sets c.fill.new.sets (g.B.Lazy.tree c.args.lazy.now) (g.B.Lazy.tree c.days.lazy) (g.B.Lazy.position c.days.lazy)
    (g.B.Lazy.position c.fill.new.lazy) (to_z w64 (of_z w64 c.args.day)) c.days.ahead c.fill.new.ahead c.days.invariant.0 c.fill.ensures.known c.days.invariant.3 in
    let fits : FitsSigned w64 c.in-Some.found.day = search rules in
    let before : c.in-Some.found.day <ℤ to_z w64 (of_z w64 c.args.day) = omega (arith, ints, to_z-of_z fits, c.if-found-day.false) in (
      c.fill.ensures.tree ∙ c.days.invariant.0,
      c.fill.ensures.knows,
      λ n t h. c.fill.ensures.kept n t (c.days.invariant.2 n t h),
      out_passed c.fill.new.sets (g.B.Lazy.tree c.args.lazy.now) (g.B.Lazy.position c.fill.new.lazy) (to_z w64 (of_z w64 c.args.day)) c.in-Some.found
          (rw c.in-Some.is at k) before,
    )

-- what was known of the part up to the day is known once it was asked
known_filled : (g : Over) (c : After-fill g)
    → IsAheadUpTo c.fill.new.sets (part_of (g.B.Lazy.tree c.args.lazy.now) (g.B.Lazy.position c.fill.new.lazy) c.fill.new.ahead) c.args.day
known_filled g c =
    rw (to_z-of_z c.ranges.day) at
    (out_filled c.days.sets c.fill.new.sets (g.B.Lazy.tree c.args.lazy.now) (g.B.Lazy.tree c.days.lazy) (g.B.Lazy.position c.days.lazy)
    (g.B.Lazy.position c.fill.new.lazy) (to_z w64 (of_z w64 c.args.day)) c.days.ahead c.fill.new.ahead c.days.invariant.0 c.fill.ensures.known c.days.invariant.3)

pub returns-in_err-fill-clause-kept : goal.returns-in_err-fill-clause-kept
returns-in_err-fill-clause-kept g c = λ n t h. c.fill.ensures.kept n t (c.days.invariant.2 n t h)

pub returns-in_default-clause-kept : goal.returns-in_default-clause-kept
returns-in_default-clause-kept g c = λ n t h. c.fill.ensures.kept n t (c.days.invariant.2 n t h)

pub returns-in_default-clause-known : goal.returns-in_default-clause-known
returns-in_default-clause-known g c = known_filled g (goal.at.returns-in_default-clause-known g c).After-fill

pub returns-in_default-clause-none : goal.returns-in_default-clause-none
returns-in_default-clause-none g c e =
    let past = c.in_ok-fill.ensures.none e in
    omega (arith, ints, clamps, past, c.min-last.ensures.value, to_z-of_z c.ranges.day, c.requires.low, c.requires.high)

pub returns-then-found-day-clause-kept : goal.returns-then-found-day-clause-kept
returns-then-found-day-clause-kept g c = λ n t h. c.fill.ensures.kept n t (c.days.invariant.2 n t h)

pub returns-then-found-day-clause-known : goal.returns-then-found-day-clause-known
returns-then-found-day-clause-known g c = known_filled g (goal.at.returns-then-found-day-clause-known g c).After-fill
