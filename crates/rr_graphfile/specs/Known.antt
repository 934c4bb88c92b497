-- What the names of zones in a list mean, as the code keeps it.
use Rattle.std.specs.Prelude.{◌≡◌, ℕ, true, if◌then◌else◌, ℤ, List, [], ◌∷◌, Option, None, Some, option_map, String, bytes_eq, ⊤}
use Rattle.std.specs.declared.alloc.Global.{Global}
use Rattle.std.specs.BTreeMap.{BTreeMap, get_by_text}
use Rattle.std.specs.Option.{is_some}
use Rattle.serde_json.specs.Data.{Data}
use Rattle.rr_true.specs.Changes.{ZoneOffsets, offset_of}
use Rattle.rr_true.specs.Names.{Means}
use Rattle.rr_graphfile.specs.Turning.{Meaning, meaning_of, turning_name}

-- names with their offsets, if they mean some
abbrev pub ZoneMap : Type 0
ZoneMap = BTreeMap (String Global) (Option ZoneOffsets)

-- what is kept of a name
abbrev pub kept_meaning : Option (Option ZoneOffsets) → Option (ℤ → ℤ)
kept_meaning None = None
kept_meaning (Some offsets) = option_map offset_of offsets

-- what a name means by what is kept; nothing if nothing is
abbrev pub known_meaning : ZoneMap → Meaning
known_meaning zones name = kept_meaning (get_by_text zones name)

-- what is kept of a name, if anything is, is what it means
abbrev pub AreMeant : Meaning → ZoneMap → Type 0
AreMeant means zones =
    (name : List ℕ) (offsets : Option ZoneOffsets) → get_by_text zones name ≡ Some offsets → Means (means name) (option_map offset_of offsets)

-- these offsets are kept of one name, and of every other what was
abbrev pub Keeps : ZoneMap → List ℕ → Option ZoneOffsets → ZoneMap → Type 0
Keeps old name offsets new =
    (other : List ℕ) → get_by_text new other ≡ (if bytes_eq name other then Some offsets else get_by_text old other)

-- the name is kept, unless it is empty
abbrev pub HasName : ZoneMap → List ℕ → Type 0
HasName zones [] = ⊤
HasName zones (b ∷ bs) = is_some (get_by_text zones (b ∷ bs)) ≡ true

-- the name of the zone that turns an event is kept
abbrev pub HasZoneOf : ZoneMap → Data → Type 0
HasZoneOf zones event = HasName zones (turning_name event)

-- what is kept stays kept
abbrev pub KeepsNames : ZoneMap → ZoneMap → Type 0
KeepsNames old new = (name : List ℕ) → HasName old name → HasName new name

-- the name of the zone that turns an event means the same by both
abbrev pub IsTurnedAlike : Meaning → Meaning → Data → Type 0
IsTurnedAlike known means event = meaning_of known (turning_name event) ≡ meaning_of means (turning_name event)
