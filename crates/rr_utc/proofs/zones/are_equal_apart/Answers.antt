use Rattle.std.proofs.Common.{subst}
use Rattle.std.specs.Prelude.{IfSome}
use Rattle.rr_model.specs.Sets.Sketch.{StandsIn}
use Rattle.rr_model.specs.Sets.Verdict.{IsEqualVerdict}
use Rattle.rr_true.specs.Changes.{offset_of}
use Rattle.rr_utc.specs.Zones.{AreApartFor}
use Rattle.rr_utc.proofs.ZoneLemmas.{one_zone_equal}
use Rattle.rr_utc.proofs.zones.are_equal_apart.Goals as goal

pub returns-then-are_one : goal.returns-then-are_one
returns-then-are_one g c test =
    let f = offset_of c.args.zone_a.now in
    let h = offset_of c.args.zone_b.now in
    let P = StandsIn (g.A.DaySeq.sketch c.args.a.now) in
    let Q = StandsIn (g.B.DaySeq.sketch c.args.b.now) in
    let one = c.if-are_one.ensures test in
    one_zone_equal f h P Q c.is_offset.ensures c.is_offset-2.ensures (subst (λ z. IfSome z (AreApartFor f h P Q)) one.0 c.requires.apart)
    (subst (IsEqualVerdict P Q) one.1 c.requires.local)
