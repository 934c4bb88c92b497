-- In which way the occurrences of a key are compared: by moments or by local times (RFC 5545, section 3.3.5).
use Rattle.std.specs.Prelude.{ℕ, Bool, true, false, if◌then◌else◌, List, [], ◌∷◌, Option, None, Some, ℤ, bytes_eq}
use Rattle.std.specs.List.{list_all}
use Rattle.rr_model.specs.declared.kind.Kind.{Kind}
use Rattle.rr_model.specs.declared.kind.Kind.TheVariants.{Moments}
use Rattle.rr_model.specs.declared.verdict.Side.{Side}
use Rattle.rr_model.specs.declared.verdict.Side.TheVariants.{A, B}
use Rattle.rr_trip.specs.Zoned.{Meaning, meaning_of}
use Rattle.rr_windows.specs.Names.{is_same_zone}

-- a zone by its name: at each moment of UTC, how many seconds local time is ahead of it
pub record Zone : Type 0 where
  pub name : List ℕ
  pub ahead : ℤ → ℤ

-- In which way both sides are compared: by local times; so too, though the zones may differ; not at all, since this side alone has no
-- zone; or by the moments of UTC that local times name in these zones.
pub data Reading : Type 0 where
  local : Reading
  unknown : Reading
  floating : Side → Reading
  moments : Zone → Zone → Reading

-- the name of all zones of one side, if it is one: the empty name if none is stated
abbrev pub one_name : List (List ℕ) → Option (List ℕ)
one_name [] = Some []
one_name (name ∷ names) = if list_all (bytes_eq name) names then Some name else None

-- both names are empty
abbrev pub are_empty : List ℕ → List ℕ → Bool
are_empty [] [] = true
are_empty a b = false

-- a side without a zone: the name is empty, and means nothing
abbrev pub is_floating : List ℕ → Option (ℤ → ℤ) → Bool
is_floating [] None = true
is_floating name meaning = false

-- the reading of two names of which one at least means nothing
abbrev pub reading_without : List ℕ → List ℕ → Option (ℤ → ℤ) → Option (ℤ → ℤ) → Reading
reading_without a b f g =
    if is_floating a f then Reading.floating A
    else (if is_floating b g then Reading.floating B else (if is_same_zone a b then Reading.local else Reading.unknown))

-- the reading of two names by what they mean
abbrev pub reading_by : List ℕ → List ℕ → Option (ℤ → ℤ) → Option (ℤ → ℤ) → Reading
reading_by a b (Some f) (Some g) = Reading.moments (record { name = a; ahead = f }) (record { name = b; ahead = g })
reading_by a b f g = reading_without a b f g

-- the reading of two names, each of its calendar
abbrev pub reading_of_names : Meaning → Meaning → List ℕ → List ℕ → Reading
reading_of_names means_a means_b a b = if are_empty a b then Reading.local else reading_by a b (meaning_of means_a a) (meaning_of means_b b)

-- the reading of the names of both sides, if each has one
abbrev pub reading_of_zones : Meaning → Meaning → Option (List ℕ) → Option (List ℕ) → Reading
reading_of_zones means_a means_b (Some a) (Some b) = reading_of_names means_a means_b a b
reading_of_zones means_a means_b a b = Reading.unknown

-- The reading of two series of these kinds whose events state these zones: dates are local.
abbrev pub reading_of : Meaning → Meaning → Kind → Kind → List (List ℕ) → List (List ℕ) → Reading
reading_of means_a means_b Moments Moments a b = reading_of_zones means_a means_b (one_name a) (one_name b)
reading_of means_a means_b kind other a b = Reading.local
