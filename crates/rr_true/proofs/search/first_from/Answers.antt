use Rattle.std.proofs.Common.{◌≡◌, FitsSigned, w64, rules, to_z, of_z, to_z-of_z, arith, ℤ, pos, ◌+ℤ◌, ◌≤ℤ◌, subst}
use Rattle.std.proofs.lemmas.Int.{ints}
use Rattle.rr_true.specs.Changes.{offset_of}
use Rattle.rr_true.specs.Near.{IsNear}
use Rattle.rr_true.specs.Spans.{IsNamedIn}
use Rattle.rr_true.proofs.NearLemmas.{back, closer}
use Rattle.rr_true.proofs.SearchLemmas.{named_here, none_after, none_here}
use Rattle.rr_true.proofs.search.first_from.Goals as goal

pub returns-in-Some : goal.returns-in-Some
returns-in-Some c =
    let inv = rw (to_z-of_z c.ranges.from, to_z-of_z c.ranges.local) at c.loop-start.invariant in
    let fits : FitsSigned w64 c.in-Some.named = search rules in
    let named = rw (to_z-of_z c.ranges.local) at c.named_in.ensures in
    let found = subst (IsNamedIn (to_z w64 c.loop-start.start-bits) c.span_at-span.result c.args.local) c.in-Some.is named in
    rw (to_z-of_z fits)
    (named_here (offset_of c.args.offsets.now) c.args.local c.args.from (to_z w64 c.loop-start.start-bits) c.in-Some.named c.span_at-span.result
    c.span_at-span.ensures.span inv.0 inv.1 found)

-- the last moment as it is stored
last_is : (local : ℤ) → IsNear local → to_z w64 (of_z w64 (local +ℤ pos 86_400)) ≡ local +ℤ pos 86_400
last_is local near = back (local +ℤ pos 86_400) (omega (arith, ints, near.0)) (omega (arith, ints, near.1))

pub loop-start-smaller : goal.loop-start-smaller
loop-start-smaller c =
    let end : FitsSigned w64 c.span_at-span.result.end = search rules in
    let later = c.span_at-span.ensures.span.later in
    let test = rw (to_z-of_z c.ranges.local, last_is c.args.local c.requires.local) at c.loop-start-test.true in
    let early : to_z w64 c.loop-start.start-bits ≤ℤ (c.args.local +ℤ pos 86_400) = omega (arith, ints, test) in
    closer (to_z w64 c.loop-start.start-bits) (to_z w64 (of_z w64 c.span_at-span.result.end)) (to_z w64 (of_z w64 c.args.local) +ℤ pos 86_401)
    (rw (to_z-of_z end) later) (rw (to_z-of_z c.ranges.local) (omega (arith, ints, early)))

pub loop-start-preserved : goal.loop-start-preserved
loop-start-preserved c =
    let inv = rw (to_z-of_z c.ranges.from, to_z-of_z c.ranges.local) at c.loop-start.invariant in
    let end : FitsSigned w64 c.span_at-span.result.end = search rules in
    let later = c.span_at-span.ensures.span.later in
    let named = rw (to_z-of_z c.ranges.local) at c.named_in.ensures in
    let none = subst (IsNamedIn (to_z w64 c.loop-start.start-bits) c.span_at-span.result c.args.local) c.in_default.is named in
    rw (to_z-of_z c.ranges.from, to_z-of_z c.ranges.local, to_z-of_z end) (
      omega (arith, ints, inv.0, later),
      none_here (offset_of c.args.offsets.now) c.args.local c.args.from (to_z w64 c.loop-start.start-bits) c.span_at-span.result
          c.span_at-span.ensures.span inv.1 none,
    )

pub returns : goal.returns
returns c =
    let inv = rw (to_z-of_z c.ranges.from, to_z-of_z c.ranges.local) at c.loop-start.invariant in
    let test = rw (to_z-of_z c.ranges.local, last_is c.args.local c.requires.local) at c.loop-start-test.false in
    none_after (offset_of c.args.offsets.now) c.args.local c.args.from (to_z w64 c.loop-start.start-bits) c.is_offset.ensures inv.1
    (omega (arith, ints, test))
