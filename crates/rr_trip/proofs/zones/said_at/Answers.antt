use Rattle.std.proofs.Common.{◌≡◌, FitsSigned, w32, w64, to_z, of_z, to_z-of_z, rules}
use Rattle.rr_true.specs.Changes.{offset_of}
use Rattle.rr_true.specs.Moments.{local_at}
use Rattle.rr_trip.specs.Zones.{zone_in}
use Rattle.rr_trip.proofs.ZoneLemmas.{ahead_printable, told_at, untold_at}
use Rattle.rr_trip.proofs.zones.said_at.Goals as goal

pub returns-then-not-is_printable-clause-said : goal.returns-then-not-is_printable-clause-said
returns-then-not-is_printable-clause-said c =
    let local : to_z w64 (of_z w64 c.local_by-local.result) ≡ local_at (offset_of c.args.zone.offsets.now) c.args.moment = search rules in
    untold_at c.args.pair.now c.requires.pair (zone_in c.args.zone) c.args.moment _ c.args.side c.said_locally.result local
    (c.is_printable.ensures.no c.if-not-is_printable.true) c.said_locally.ensures.said

pub returns-clause-said : goal.returns-clause-said
returns-clause-said c =
    let local : to_z w64 (of_z w64 c.local_by-local.result) ≡ local_at (offset_of c.args.zone.offsets.now) c.args.moment = search rules in
    told_at c.args.pair.now c.requires.pair (zone_in c.args.zone) c.args.moment _ c.args.side c.ahead_by.result c.is_only_zones.result local
    (search rules) c.is_only_zones.ensures

pub returns-clause-printable : goal.returns-clause-printable
returns-clause-printable c =
    let fits : FitsSigned w32 c.at-offset.result = search rules in (
      c.is_printable.ensures.yes c.if-not-is_printable.false,
      rw (rw (to_z-of_z fits) at c.ahead_by.ensures) (ahead_printable c.args.zone.name.now c.at-offset.result c.at-offset.ensures.below),
    )
