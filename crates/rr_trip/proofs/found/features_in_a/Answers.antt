use Rattle.std.proofs.Common.{[], Option, arith}
use Rattle.std.proofs.lemmas.List.Elements.{All-nil, All-same}
use Rattle.rr_groups.specs.declared.group.Group.{Group}
use Rattle.rr_seam.specs.Stated.{calendar_by}
use Rattle.rr_trip.specs.Found.{AreFeaturedInA, IsFeatured}
use Rattle.rr_trip.specs.Known.{IsKnownZone}
use Rattle.rr_trip.specs.Zoned.{zoned}
use Rattle.rr_trip.specs.declared.features.Features.{Features}
use Rattle.rr_trip.proofs.FoundLemmas.{AreUpTo-end, AreUpTo-next, AreUpTo-start}
use Rattle.rr_trip.proofs.found.features_in_a.Goals as goal

pub loop-group-init : goal.loop-group-init
loop-group-init g c =
    let means = g.N.ZoneNames.meaning c.args.names.now in
    let calendar = zoned (calendar_by (g.F.EventFile.keys c.args.file.now) (g.F.EventFile.stated c.args.file.now) (g.F.EventFile.titles c.args.file.now)) means in (
      All-same (IsKnownZone means) _ [] c.new-known.ensures (All-nil (IsKnownZone means)),
      AreUpTo-start (AreFeaturedInA calendar) c.args.groups.now _ c.new-features.ensures.items,
    )

pub loop-group-preserved : goal.loop-group-preserved
loop-group-preserved g c =
    let means = g.N.ZoneNames.meaning c.args.names.now in
    let calendar = zoned (calendar_by (g.F.EventFile.keys c.args.file.now) (g.F.EventFile.stated c.args.file.now) (g.F.EventFile.titles c.args.file.now)) means in
    let group = c.group-item.result in
    let featured : IsFeatured calendar group.a.items group.b.items c.in_ok-of_group.of_group =
    rw (← c.deref.ensures.value, ← c.deref-in-loop-group.ensures.value) c.in_ok-of_group.ensures.features in (
      c.in_ok-of_group.ensures.known,
      AreUpTo-next (λ (x : Group) (f : Option Features). IsFeatured calendar x.a.items x.b.items f) (AreFeaturedInA calendar) (λ x xs f fs is are. (is, are))
          c.args.groups.now c.loop-group.features.items c.push.new.self.items c.loop-group.group-index group c.in_ok-of_group.of_group (omega arith)
          c.group-item.is featured c.in_ok-push.ensures.items c.loop-group.invariant.1,
    )

pub returns : goal.returns
returns g c =
    let means = g.N.ZoneNames.meaning c.args.names.now in
    let calendar = zoned (calendar_by (g.F.EventFile.keys c.args.file.now) (g.F.EventFile.stated c.args.file.now) (g.F.EventFile.titles c.args.file.now)) means in
    AreUpTo-end (AreFeaturedInA calendar) c.args.groups.now c.loop-group.features.items c.loop-group.group-index tt (omega arith) c.loop-group.invariant.1
