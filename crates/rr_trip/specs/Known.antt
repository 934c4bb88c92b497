-- What is kept of the names of zones while calendars are compared (RFC 5545, section 3.2.19).
use Rattle.std.specs.Prelude.{◌≡◌, ℕ, List, All, Option, Some, option_map, IfSome, ℤ, slice_get}
use Rattle.rr_true.specs.Apart.{AreApart}
use Rattle.rr_true.specs.Names.{Means}
use Rattle.rr_true.specs.Changes.{offset_of}
use Rattle.rr_trip.specs.Zoned.{Meaning, meaning_of}
use Rattle.rr_trip.specs.declared.known.KnownZones.{KnownZones}
use Rattle.rr_trip.specs.declared.known.NamedZone.{NamedZone}
use Rattle.rr_trip.specs.declared.known.PairOfZones.{PairOfZones}
use Rattle.rr_trip.specs.declared.known.ZoneIndexes.{ZoneIndexes}
use Rattle.rr_true.specs.declared.parted.Apart.{Apart}

-- the zone that is kept under a name is what the name means
abbrev pub IsKnownZone : Meaning → NamedZone → Type 0
IsKnownZone means zone = Means (meaning_of means zone.name) (option_map offset_of zone.offsets)

-- the zone at this index has this name
pub record IsNamedAt (zones : List NamedZone) (name : List ℕ) (index : ℕ) : Type 0 where
  pub zone : NamedZone
  pub at : slice_get zones index ≡ Some zone
  pub named : zone.name ≡ name

-- what two names mean is apart as is kept
abbrev pub AreApartAs : Meaning → Meaning → List ℕ → List ℕ → Option Apart → Type 0
AreApartAs means_a means_b a b apart =
    (f g : ℤ → ℤ) → meaning_of means_a a ≡ Some f → meaning_of means_b b ≡ Some g → IfSome apart (AreApart f g)

-- what is kept of two zones is so, if both names mean something
abbrev pub AreZonesApart : NamedZone → NamedZone → Option Apart → Type 0
AreZonesApart a b apart =
    (f g : ℤ → ℤ) → option_map offset_of a.offsets ≡ Some f → option_map offset_of b.offsets ≡ Some g → IfSome apart (AreApart f g)

-- this is kept of two names
pub record IsPairAt (pairs : List PairOfZones) (a b : List ℕ) (apart : Option Apart) : Type 0 where
  pub index : ℕ
  pub pair : PairOfZones
  pub at : slice_get pairs index ≡ Some pair
  pub first : pair.a ≡ a
  pub second : pair.b ≡ b
  pub is : pair.apart ≡ apart

-- what is kept of two names is so
abbrev pub IsKnownPair : Meaning → Meaning → PairOfZones → Type 0
IsKnownPair means_a means_b pair = AreApartAs means_a means_b pair.a pair.b pair.apart

-- all that is kept is so
pub record AreKnown (means_a means_b : Meaning) (known : KnownZones) : Type 0 where
  pub a : All (IsKnownZone means_a) known.a.zones.items
  pub b : All (IsKnownZone means_b) known.b.zones.items
  pub pairs : All (IsKnownPair means_a means_b) known.pairs.items

-- two names are kept at these indexes
pub record AreNamedAt (means_a means_b : Meaning) (a b : List ℕ) (known : KnownZones) (indexes : ZoneIndexes) : Type 0 where
  pub at_a : IsNamedAt known.a.zones.items a indexes.a
  pub at_b : IsNamedAt known.b.zones.items b indexes.b
  pub apart : AreApartAs means_a means_b a b indexes.apart

-- the same names are kept of both calendars
abbrev pub HasSameZones : KnownZones → KnownZones → Type 0
HasSameZones old new = (new.a ≡ old.a) × (new.b ≡ old.b)
