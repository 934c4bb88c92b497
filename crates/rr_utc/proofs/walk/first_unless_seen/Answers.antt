use Rattle.std.proofs.Common.{◌+ℤ◌, ◌*ℤ◌, pos, None, Some, w64, to_z, of_z, refl, subst}
use Rattle.std.proofs.lemmas.Int.{to_z-of_z}
use Rattle.rr_model.specs.Sets.Sketch.{StandsIn}
use Rattle.rr_true.specs.Changes.{offset_of}
use Rattle.rr_true.specs.Occurrences.{TrueOf}
use Rattle.rr_utc.specs.Between.{IsFirstBetween}
use Rattle.rr_utc.specs.Seen.{IsAbout}
use Rattle.rr_utc.proofs.SeenLemmas.{still_equal}
use Rattle.rr_utc.proofs.walk.first_unless_seen.Goals as goal

pub returns-then-has-clause-first : goal.returns-then-has-clause-first
returns-then-has-clause-first g c =
    let f = offset_of c.args.zone_a.now in
    let h = offset_of c.args.zone_b.now in
    c.requires.seen c.in-Some.about c.args.day (c.if-has.ensures refl)
    (subst (λ z. IsAbout (g.A.DaySeq.sets c.args.a.now) (g.A.DaySeq.sketch c.args.a.now) f (g.B.DaySeq.sets c.args.b.now) (g.B.DaySeq.sketch c.args.b.now) h z c.in-Some.about)
    (to_z-of_z w64 c.args.day c.ranges.day) c.in-Some.ensures)

pub returns-in-Some-2-clause-first : goal.returns-in-Some-2-clause-first
returns-in-Some-2-clause-first g c =
    let P = TrueOf (offset_of c.args.zone_a.now) (StandsIn (g.A.DaySeq.sketch c.args.a.now)) in
    let Q = TrueOf (offset_of c.args.zone_b.now) (StandsIn (g.B.DaySeq.sketch c.args.b.now)) in
    let day = to_z w64 (of_z w64 c.args.day) in
    subst (λ z. IsFirstBetween P Q (z *ℤ pos 86_400) ((z +ℤ pos 1) *ℤ pos 86_400) (Some c.in-Some-2.only)) (to_z-of_z w64 c.args.day c.ranges.day)
    (subst (IsFirstBetween P Q (day *ℤ pos 86_400) ((day +ℤ pos 1) *ℤ pos 86_400)) c.in-Some-2.is c.in_ok-only.ensures)

pub returns-in-None-clause-first : goal.returns-in-None-clause-first
returns-in-None-clause-first g c =
    let P = TrueOf (offset_of c.args.zone_a.now) (StandsIn (g.A.DaySeq.sketch c.args.a.now)) in
    let Q = TrueOf (offset_of c.args.zone_b.now) (StandsIn (g.B.DaySeq.sketch c.args.b.now)) in
    let day = to_z w64 (of_z w64 c.args.day) in
    subst (λ z. IsFirstBetween P Q (z *ℤ pos 86_400) ((z +ℤ pos 1) *ℤ pos 86_400) None) (to_z-of_z w64 c.args.day c.ranges.day)
    (subst (IsFirstBetween P Q (day *ℤ pos 86_400) ((day +ℤ pos 1) *ℤ pos 86_400)) c.in-None.is c.in_ok-only.ensures)

pub returns-in-None-clause-seen : goal.returns-in-None-clause-seen
returns-in-None-clause-seen g c =
    let s = g.A.DaySeq.sketch c.args.a.now in
    let u = g.B.DaySeq.sketch c.args.b.now in
    let f = offset_of c.args.zone_a.now in
    let h = offset_of c.args.zone_b.now in
    let sets_a = g.A.DaySeq.sets c.args.a.now in
    let sets_b = g.B.DaySeq.sets c.args.b.now in
    let P = TrueOf f (StandsIn s) in
    let Q = TrueOf h (StandsIn u) in
    let day = to_z w64 (of_z w64 c.args.day) in
    still_equal sets_a s f sets_b u h day c.in-Some.about _ _ c.is_offset.ensures c.is_offset-2.ensures c.put.ensures c.in-Some.ensures
    (subst (IsFirstBetween P Q (day *ℤ pos 86_400) ((day +ℤ pos 1) *ℤ pos 86_400)) c.in-None.is c.in_ok-only.ensures) c.requires.seen
