-- What is said of a key by its zones, as the code goes.
use Rattle.std.specs.Prelude.{◌≡◌, ◌⊎◌, ℤ, Bool, true, false}
use Rattle.rr_model.specs.Series.Occurrences.{Occurs}
use Rattle.rr_model.specs.declared.kind.Kind.TheVariants as kind
use Rattle.rr_model.specs.declared.verdict.Side.{Side}
use Rattle.rr_model.specs.declared.verdict.Verdict.{Verdict}
use Rattle.rr_model.specs.declared.verdict.Verdict.TheVariants.{Yes, No}
use Rattle.rr_text.specs.Printed.{IsPrintableAt}
use Rattle.rr_true.specs.Moments.{local_at}
use Rattle.rr_true.specs.Changes.{offset_of}
use Rattle.rr_trip.specs.Pairs.{series_b}
use Rattle.rr_trip.specs.Readings.{Zone}
use Rattle.rr_trip.specs.Said.{IsComparedLocally, IsOnlyZones, ahead_at}
use Rattle.rr_trip.specs.declared.pair.KeyPair.{KeyPair}
use Rattle.rr_trip.specs.declared.said.Said.{Said}
use Rattle.rr_trip.specs.declared.said.Said.TheVariants.{Compared}
use Rattle.rr_trip.specs.declared.said.Zones.TheVariants.{Moments, Unknown}
use Rattle.rr_trip.specs.declared.zones.TrueZone.{TrueZone}

-- a zone as the code has it
abbrev pub zone_in : TrueZone → Zone
zone_in zone = record { name = zone.name.now; ahead = offset_of zone.offsets.now }

-- local times are equal
abbrev pub is_yes : Verdict → Bool
is_yes Yes = true
is_yes (No kind at side) = false

-- a moment is told by the local time of a zone
pub record IsToldAt (pair : KeyPair) (zone : Zone) (u : ℤ) (side : Side) (said : Said) : Type 0 where
  pub only_zones : Bool
  pub parts : IsOnlyZones (Occurs pair.a.series) (Occurs (series_b pair)) only_zones
  pub is : said ≡ Compared (No kind.Moments (local_at zone.ahead u) side) (Moments (ahead_at zone u) only_zones)

-- a moment is told by the local time of a zone; if that can't be printed, local times are compared
abbrev pub IsSaidAt : KeyPair → Zone → ℤ → Side → Said → Type 0
IsSaidAt pair zone u side said =
    IsToldAt pair zone u side said
    ⊎ ((IsPrintableAt kind.Moments (local_at zone.ahead u) → ⊥) × IsComparedLocally Unknown (Occurs pair.a.series) (Occurs (series_b pair)) said)
