use Rattle.std.proofs.Common.{FitsSigned, w64, to_z, of_z, subst, sym, arith, rules}
use Rattle.std.proofs.lemmas.Int.{ints, to_z-of_z}
use Rattle.rr_model.specs.Sets.Sketch.{StandsIn}
use Rattle.rr_model.specs.Sets.Verdict.{IsEqualVerdict}
use Rattle.rr_true.specs.Changes.{offset_of}
use Rattle.rr_true.specs.Occurrences.{TrueOf}
use Rattle.rr_utc.specs.Walks.{NamesNear}
use Rattle.rr_utc.proofs.WalkLemmas.{near_named, walk_decides}
use Rattle.rr_utc.proofs.equal.equal_moments.Goals as goal

pub returns-clause-verdict : goal.returns-clause-verdict
returns-clause-verdict g c =
    let s = g.A.DaySeq.sketch c.args.a.now in
    let u = g.B.DaySeq.sketch c.args.b.now in
    let f = offset_of c.args.zone_a.now in
    let h = offset_of c.args.zone_b.now in
    let from = c.begin_of_walk-from.result in
    let end = c.in-Some.end in
    let fits : FitsSigned w64 from = record { sfits = c.begin_of_walk-from.type_inv } in
    let fits_end : FitsSigned w64 end = search rules in
    subst (IsEqualVerdict (TrueOf f (StandsIn s)) (TrueOf h (StandsIn u))) (sym c.verdict_of.ensures)
    (walk_decides s u f h from end (to_z w64 (of_z w64 from)) (to_z w64 (of_z w64 end)) (to_z-of_z w64 from fits) (to_z-of_z w64 end fits_end)
    c.begin_of_walk-from.ensures.before c.in-Some.ensures.end c.in_ok-shown.shown c.in_ok-shown.ensures)

pub returns-clause-near : goal.returns-clause-near
returns-clause-near g c =
    let s = g.A.DaySeq.sketch c.args.a.now in
    let u = g.B.DaySeq.sketch c.args.b.now in
    let f = offset_of c.args.zone_a.now in
    let h = offset_of c.args.zone_b.now in
    let from = c.begin_of_walk-from.result in
    let end = c.in-Some.end in
    let fits : FitsSigned w64 from = record { sfits = c.begin_of_walk-from.type_inv } in
    let fits_end : FitsSigned w64 end = search rules in
    let low = c.begin_of_walk-from.ensures.low in
    let high = c.in-Some.ensures.high in
    let same = to_z-of_z w64 from fits in
    let same_end = to_z-of_z w64 end fits_end in
    subst NamesNear (sym c.verdict_of.ensures)
    (near_named (TrueOf f (StandsIn s)) (TrueOf h (StandsIn u)) (to_z w64 (of_z w64 from)) (to_z w64 (of_z w64 end)) (omega (arith, ints, same, low))
    (omega (arith, ints, same_end, high)) c.in_ok-shown.shown c.in_ok-shown.ensures)
