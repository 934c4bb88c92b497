use Rattle.std.proofs.Common.{w64, subst}
use Rattle.std.proofs.lemmas.Int.{to_z-of_z}
use Rattle.rr_true.specs.Changes.{offset_of}
use Rattle.rr_utc.specs.Between.{IsFirstOnly}
use Rattle.rr_utc.specs.Days.{AreTrueOn}
use Rattle.rr_utc.proofs.WalkLemmas.{day_shows}
use Rattle.rr_utc.proofs.walk.first_on.Goals as goal

pub returns : goal.returns
returns g c =
    let only = c.first_only.result in
    let day = to_z-of_z w64 c.args.day c.ranges.day in
    day_shows (g.A.DaySeq.sketch c.args.a.now) (g.B.DaySeq.sketch c.args.b.now) (offset_of c.args.zone_a.now) (offset_of c.args.zone_b.now) c.args.day c.in_ok-of_a.of_a
    c.in_ok-of_b.of_b (subst (λ d. AreTrueOn (offset_of c.args.zone_a.now) (g.A.DaySeq.sketch c.args.a.now) d c.in_ok-of_a.of_a) day c.in_ok-of_a.ensures)
    (subst (λ d. AreTrueOn (offset_of c.args.zone_b.now) (g.B.DaySeq.sketch c.args.b.now) d c.in_ok-of_b.of_b) day c.in_ok-of_b.ensures) only
    (subst (λ l. IsFirstOnly l c.in_ok-of_b.of_b only) c.as_slice.ensures.value
    (subst (λ l. IsFirstOnly c.as_slice.result.now l only) c.as_slice-2.ensures.value c.first_only.ensures))
