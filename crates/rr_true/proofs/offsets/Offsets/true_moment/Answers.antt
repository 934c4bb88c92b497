use Rattle.std.proofs.Common.{◌≡◌, FitsSigned, w32, w64, rules, to_z, of_z, to_z-of_z, arith, pos, ◌-ℤ◌, subst}
use Rattle.std.proofs.lemmas.Int.{ints}
use Rattle.rr_true.specs.Changes.{offset_of}
use Rattle.rr_true.specs.Spans.{IsFirstFrom}
use Rattle.rr_true.proofs.NearLemmas.{back}
use Rattle.rr_true.proofs.SearchLemmas.{skipped}
use Rattle.rr_true.proofs.offsets.Offsets.true_moment.Goals as goal

pub returns-in-None : goal.returns-in-None
returns-in-None c =
    let f = offset_of c.args.self.now in
    let reached : FitsSigned w64 c.first_reached-reached.result = search rules in
    let offset : FitsSigned w32 c.span_at.result.offset = search rules in
    let fits : FitsSigned w64 c.by_offset.result = search rules in
    let near = c.requires in
    let low = c.first_reached-reached.ensures.low in
    let high = c.first_reached-reached.ensures.high in
    let before : to_z w64 (of_z w64 (c.first_reached-reached.result -ℤ pos 1)) ≡ c.first_reached-reached.result -ℤ pos 1 =
    back (c.first_reached-reached.result -ℤ pos 1) (omega (arith, ints, near.0, low)) (omega (arith, ints, near.1, high)) in
    let s = rw (to_z-of_z reached, before) at c.span_at.ensures.span in
    let later = s.later in
    let there : f (c.first_reached-reached.result -ℤ pos 1) ≡ c.span_at.result.offset =
    s.one (c.first_reached-reached.result -ℤ pos 1) (omega (arith, ints)) later in
    let by = rw (to_z-of_z c.ranges.local, to_z-of_z offset) at c.by_offset.ensures in
    let none = subst (IsFirstFrom f c.first_reached-reached.result c.args.local) c.in-None.is
    (rw (to_z-of_z reached, to_z-of_z c.ranges.local) at c.first_from.ensures) in
    rw (to_z-of_z fits)
    (skipped f c.args.local c.first_reached-reached.result c.by_offset.result
    (rw (to_z-of_z c.ranges.local) at c.first_reached-reached.ensures.reached) none (omega (arith, ints, by, there)))
