use Rattle.std.proofs.Common.{◌≡◌, ◌+ℤ◌, w32, to_z, of_z}
use Rattle.std.specs.Prelude.{IsTrue}
use Rattle.std.proofs.lemmas.Result.{IfOk-weaker}
use Rattle.rr_model.specs.Sets.Sketch.{StandsIn}
use Rattle.rr_model.specs.Sets.Verdict.{HaveEqualOccurrences}
use Rattle.rr_true.specs.Changes.{offset_of}
use Rattle.rr_true.specs.Occurrences.{TrueOf}
use Rattle.rr_utc.proofs.ZoneLemmas.{constant_equal, stored_apart}
use Rattle.rr_utc.proofs.zones.are_equal_shifted.Goals as goal

pub returns : goal.returns
returns g c =
    let f = offset_of c.args.zone_a.now in
    let h = offset_of c.args.zone_b.now in
    let d = offset_of c.fixed-fixed_a.result in
    let e = offset_of c.fixed-fixed_b.result in
    let P = StandsIn (g.A.DaySeq.sketch c.args.a.now) in
    let Q = StandsIn (g.B.DaySeq.sketch c.args.b.now) in
    let is = c.in-Some.ensures in
    let first = to_z w32 (of_z w32 c.in-Some.first) in
    let second = to_z w32 (of_z w32 c.in-Some.second) in
    let apart : first ≡ second +ℤ c.args.by = stored_apart c.in-Some.first c.in-Some.second c.args.by c.ranges.by is.0 is.1 is.2 in
    IfOk-weaker c.are_equal_walked.result (λ r. IsTrue r → HaveEqualOccurrences (TrueOf d P) (TrueOf e Q))
    (λ r. IsTrue r → HaveEqualOccurrences (TrueOf f P) (TrueOf h Q))
    (λ r equal test.
    constant_equal f h d e P Q c.args.by first second c.is_offset.ensures c.is_offset-2.ensures c.requires.apart c.fixed-fixed_a.ensures c.fixed-fixed_b.ensures apart
    (equal test))
    c.are_equal_walked.ensures
