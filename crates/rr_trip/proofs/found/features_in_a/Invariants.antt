use Rattle.std.specs.Prelude.{All}
use Rattle.rr_seam.specs.Stated.{calendar_by}
use Rattle.rr_trip.specs.Found.{AreFeaturedInA}
use Rattle.rr_trip.specs.Known.{IsKnownZone}
use Rattle.rr_trip.specs.Zoned.{zoned}
use Rattle.rr_trip.proofs.FoundLemmas.{AreUpTo}
use Rattle.rr_trip.proofs.found.features_in_a.Given as goal

-- what is known of names is so, and so is what the groups before this one are found again by
abbrev pub invariant-loop-group : goal.invariant-loop-group
invariant-loop-group g l =
    let means = g.N.ZoneNames.meaning l.names in
    All (IsKnownZone means) l.known.zones.items
    × AreUpTo (AreFeaturedInA (zoned (calendar_by (g.F.EventFile.keys l.file) (g.F.EventFile.stated l.file) (g.F.EventFile.titles l.file)) means))
    l.groups l.features.items l.group-index
