use Rattle.std.proofs.Common.{FitsSigned, w32, w64, to_z, of_z, refl, subst, rules}
use Rattle.std.specs.Prelude.{IfSome}
use Rattle.std.proofs.lemmas.Int.{to_z-of_z}
use Rattle.rr_model.specs.Sets.Sketch.{StandsIn}
use Rattle.rr_true.specs.Apart.{AreApart}
use Rattle.rr_true.specs.Changes.{offset_of}
use Rattle.rr_utc.proofs.ZoneLemmas.{apart_is}
use Rattle.rr_utc.proofs.zones.apart_for.Goals as goal

pub returns-then-begins_after-2 : goal.returns-then-begins_after-2
returns-then-begins_after-2 g c =
    let f = offset_of c.args.zone_a.now in
    let h = offset_of c.args.zone_b.now in
    let apart = c.in_ok-apart.apart in
    let by : FitsSigned w32 apart.by = search rules in
    let from : FitsSigned w64 apart.from = search rules in
    let known = subst (λ z. IfSome z (AreApart f h)) c.in_ok-apart.was c.requires.apart in
    apart_is f h (StandsIn (g.A.DaySeq.sketch c.args.a.now)) (StandsIn (g.B.DaySeq.sketch c.args.b.now)) apart (to_z w64 (of_z w64 apart.from))
    (to_z w32 (of_z w32 apart.by)) (to_z-of_z w64 apart.from from) (to_z-of_z w32 apart.by by) known (c.if-begins_after.ensures refl) (c.if-begins_after-2.ensures refl)
