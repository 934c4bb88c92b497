use Rattle.std.proofs.Common.{FitsSigned, w32, w64, rules, to_z, of_z, to_z-of_z, arith, ◌≡◌, ℤ, pos, neg_ℤ, ◌+ℤ◌, ◌-ℤ◌, ◌≤ℤ◌, ◌<ℤ◌}
use Rattle.std.specs.Int.{int_max}
use Rattle.std.proofs.lemmas.Int.{clamps, ints}
use Rattle.rr_true.specs.Changes.{offset_of}
use Rattle.rr_true.proofs.NearLemmas.{back, closer}
use Rattle.rr_true.proofs.SearchLemmas.{earlier_before, not_reached, reached_here}
use Rattle.rr_true.proofs.search.first_reached.Goals as goal

pub loop-span-init : goal.loop-span-init
loop-span-init c =
    let near = c.requires in
    let from : to_z w64 (of_z w64 (c.args.local -ℤ pos 86_400)) ≡ c.args.local -ℤ pos 86_400 =
    back (c.args.local -ℤ pos 86_400) (omega (arith, ints, near.0)) (omega (arith, ints, near.1)) in
    rw (to_z-of_z c.ranges.local, from)
    (omega (arith, ints), omega (arith, ints), earlier_before (offset_of c.args.offsets.now) c.args.local c.is_offset.ensures)

pub returns-then-named-span-clause-reached : goal.returns-then-named-span-clause-reached
returns-then-named-span-clause-reached c =
    let fits : FitsSigned w64 c.max.result = search rules in
    let named : FitsSigned w64 c.by_offset-named.result = search rules in
    let offset : FitsSigned w32 c.span_at-span.result.offset = search rules in
    let end : FitsSigned w64 c.span_at-span.result.end = search rules in
    let same = rw (to_z-of_z c.ranges.local, to_z-of_z offset) at c.by_offset-named.ensures in
    let is = rw (to_z-of_z named, same) at c.max.ensures.value in
    let within = rw (to_z-of_z named, to_z-of_z end, same) at c.if-named-span.true in
    let inv = rw (to_z-of_z c.ranges.local) at c.loop-span.invariant in
    rw (to_z-of_z fits)
    (reached_here (offset_of c.args.offsets.now) c.args.local (to_z w64 c.loop-span.from-bits) c.max.result c.span_at-span.result
    c.span_at-span.ensures.span inv.2 is (omega (arith, ints, within)))

pub returns-then-named-span-clause-high : goal.returns-then-named-span-clause-high
returns-then-named-span-clause-high c =
    let fits : FitsSigned w64 c.max.result = search rules in
    let named : FitsSigned w64 c.by_offset-named.result = search rules in
    let offset : FitsSigned w32 c.span_at-span.result.offset = search rules in
    let same = rw (to_z-of_z c.ranges.local, to_z-of_z offset) at c.by_offset-named.ensures in
    let is = rw (to_z-of_z named, same) at c.max.ensures.value in
    let inv = rw (to_z-of_z c.ranges.local) at c.loop-span.invariant in
    let below = c.span_at-span.ensures.below in
    rw (to_z-of_z fits) (most c.args.local (to_z w64 c.loop-span.from-bits) c.span_at-span.result.offset c.max.result is inv.1 below.0)
  where
    most : (t from o u : ℤ) → u ≡ int_max (t -ℤ o) from → from ≤ℤ (t +ℤ pos 86_400) → neg_ℤ (pos 86_400) <ℤ o → u ≤ℤ (t +ℤ pos 86_400)
    most t from o u is l m = omega (arith, ints, clamps, is, l, m)

pub loop-span-smaller : goal.loop-span-smaller
loop-span-smaller c =
    let end : FitsSigned w64 c.span_at-span.result.end = search rules in
    let later = c.span_at-span.ensures.span.later in
    closer (to_z w64 c.loop-span.from-bits) (to_z w64 (of_z w64 c.span_at-span.result.end)) (to_z w64 (of_z w64 c.args.local) +ℤ pos 86_401)
    (rw (to_z-of_z end) later) (omega (arith, ints, c.loop-span.invariant.1))

pub loop-span-preserved : goal.loop-span-preserved
loop-span-preserved c =
    let named : FitsSigned w64 c.by_offset-named.result = search rules in
    let offset : FitsSigned w32 c.span_at-span.result.offset = search rules in
    let end : FitsSigned w64 c.span_at-span.result.end = search rules in
    let same = rw (to_z-of_z c.ranges.local, to_z-of_z offset) at c.by_offset-named.ensures in
    let late = rw (to_z-of_z named, to_z-of_z end, same) at c.if-named-span.false in
    let inv = rw (to_z-of_z c.ranges.local) at c.loop-span.invariant in
    let later = c.span_at-span.ensures.span.later in
    let below = c.span_at-span.ensures.below in
    let behind : c.span_at-span.result.end ≤ℤ (c.args.local -ℤ c.span_at-span.result.offset) = omega (arith, ints, late) in
    rw (to_z-of_z c.ranges.local, to_z-of_z end) (
      omega (arith, ints, later, inv.0),
      omega (arith, ints, behind, below.0),
      not_reached (offset_of c.args.offsets.now) c.args.local (to_z w64 c.loop-span.from-bits) c.span_at-span.result c.span_at-span.ensures.span inv.2 behind,
    )
