use Rattle.std.proofs.Common.{FitsSigned, w32, w64, rules, to_z, of_z, to_z-of_z, arith}
use Rattle.std.proofs.lemmas.Int.{ints}
use Rattle.rr_true.specs.Changes.{offset_of}
use Rattle.rr_true.proofs.ApartLemmas.{later, parted_more}
use Rattle.rr_true.proofs.NearLemmas.{closer}
use Rattle.rr_true.proofs.parting.parted_to.Goals as goal

pub loop-at-smaller : goal.loop-at-smaller
loop-at-smaller c =
    let first : FitsSigned w64 c.span_at-first.result.end = search rules in
    let second : FitsSigned w64 c.span_at-second.result.end = search rules in
    let fits : FitsSigned w64 c.min-at.result = search rules in
    let is = rw (to_z-of_z first, to_z-of_z second) at c.min-at.ensures.value in
    let past = later (offset_of c.args.a.now) (offset_of c.args.b.now) c.args.end (to_z w64 c.loop-at.at-bits) c.min-at.result c.span_at-first.result
    c.span_at-second.result c.loop-at.found c.span_at-first.ensures.span c.span_at-second.ensures.span is in
    closer (to_z w64 c.loop-at.at-bits) (to_z w64 (of_z w64 c.min-at.result)) (to_z w64 (of_z w64 c.args.end)) (rw (to_z-of_z fits) past)
    (omega (arith, ints, c.loop-at-test.true))

pub loop-at-preserved : goal.loop-at-preserved
loop-at-preserved c =
    let first : FitsSigned w64 c.span_at-first.result.end = search rules in
    let second : FitsSigned w64 c.span_at-second.result.end = search rules in
    let one : FitsSigned w32 c.span_at-first.result.offset = search rules in
    let other : FitsSigned w32 c.span_at-second.result.offset = search rules in
    let by : FitsSigned w32 c.ahead.result = search rules in
    let fits : FitsSigned w64 c.min-at.result = search rules in
    let is = rw (to_z-of_z first, to_z-of_z second) at c.min-at.ensures.value in
    let gap = rw (to_z-of_z one, to_z-of_z other) at c.ahead.ensures in
    let found = rw (to_z-of_z by, gap) at c.parted_by-found.ensures in
    let test = rw (to_z-of_z c.ranges.end) at c.loop-at-test.true in
    let inv = rw (to_z-of_z c.ranges.end) at c.loop-at.invariant in
    rw (to_z-of_z c.ranges.end, to_z-of_z fits, found)
    (parted_more (offset_of c.args.a.now) (offset_of c.args.b.now) c.args.end (to_z w64 c.loop-at.at-bits) c.min-at.result c.span_at-first.result
    c.span_at-second.result c.loop-at.found c.span_at-first.ensures.span c.span_at-second.ensures.span is (omega (arith, ints, test)) inv)
