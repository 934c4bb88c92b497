use Rattle.std.proofs.Common.{Bool, FitsSigned, w64, to_z-of_z, rules, subst, sym}
use Rattle.rr_true.specs.Changes.{offset_of}
use Rattle.rr_days.specs.Sequence.{sketch}
use Rattle.rr_model.specs.Sets.Sketch.{StandsIn}
use Rattle.rr_model.specs.declared.verdict.Verdict.TheVariants.{Yes}
use Rattle.rr_trip.specs.Pairs.{days_b, series_b}
use Rattle.rr_trip.specs.Said.{IsSaidByMoments}
use Rattle.rr_trip.specs.Zones.{zone_in}
use Rattle.rr_trip.specs.declared.said.Ahead.TheVariants.{Utc}
use Rattle.rr_trip.specs.declared.said.Said.TheVariants.{Compared}
use Rattle.rr_trip.specs.declared.said.Zones.TheVariants.{Moments}
use Rattle.rr_trip.proofs.ZoneLemmas.{kind_named, truly_no, truly_yes}
use Rattle.rr_trip.proofs.zones.said_truly.Goals as goal

pub returns-in-Yes-clause-said : goal.returns-in-Yes-clause-said
returns-in-Yes-clause-said c =
    let pair = c.args.pair.now in
    subst (λ (b : Bool). IsSaidByMoments (zone_in c.args.a) (zone_in c.args.b) pair.a.series (series_b pair) (Compared Yes (Moments Utc b)))
    (sym c.is_only_zones.ensures)
    (truly_yes pair c.requires.pair (zone_in c.args.a) (zone_in c.args.b) (rw c.in-Yes.is at c.requires.verdict))

pub returns-in-No-clause-said : goal.returns-in-No-clause-said
returns-in-No-clause-said c =
    let pair = c.args.pair.now in
    let verdict = rw c.in-No.is at c.requires.verdict in
    let at : FitsSigned w64 c.in-No.at = search rules in
    truly_no pair c.requires.pair (zone_in c.args.a) (zone_in c.args.b) (zone_in c.zone_on.result) c.in-No.kind c.in-No.at c.in-No.side c.said_at.result verdict
    c.zone_on.ensures
    (kind_named (offset_of c.args.a.offsets.now) (offset_of c.args.b.offsets.now) (StandsIn (sketch pair.a.days)) (StandsIn (sketch (days_b pair)))
    c.in-No.kind c.in-No.at c.in-No.side verdict)
    (rw (to_z-of_z at) at c.said_at.ensures.said)
