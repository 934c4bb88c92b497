-- What the events of a key are found again by if one calendar alone has the key: their title, and when they first occur.
use Rattle.std.specs.Prelude.{◌≡◌, ⊤, ℕ, List, [], ◌∷◌, Option, None, Some, ℤ}
use Rattle.rr_model.specs.declared.kind.Kind.{Kind}
use Rattle.rr_model.specs.declared.kind.Kind.TheVariants.{Days, Moments}
use Rattle.rr_model.specs.declared.rule.Series.{Series}
use Rattle.rr_next.specs.First.{AreFirst}
use Rattle.rr_seam.specs.Stated.{Stated}
use Rattle.rr_true.specs.Moments.{IsTrueMoment}
use Rattle.rr_trip.specs.Judged.{IsKeySeries, IsRefused}
use Rattle.rr_trip.specs.Readings.{one_name}
use Rattle.rr_trip.specs.Said.{occurs_at}
use Rattle.rr_trip.specs.Zoned.{Meaning, meaning_of}
use Rattle.rr_trip.specs.declared.features.Features.{Features}
use Rattle.rr_trip.specs.declared.features.FirstTimes.{FirstTimes}
use Rattle.rr_trip.specs.declared.features.FirstTimes.TheVariants.{Unread, Local, Zoned}
use Rattle.rr_trip.specs.declared.features.TheConstants.{FIRST_OCCURRENCES}

-- each moment is the one that the local time at its place names (RFC 5545, section 3.3.5)
abbrev pub AreTrueMoments : (ℤ → ℤ) → List ℤ → List ℤ → Type 0
AreTrueMoments offset [] [] = ⊤
AreTrueMoments offset (t ∷ ts) (u ∷ us) = IsTrueMoment offset t u × AreTrueMoments offset ts us
AreTrueMoments offset ts us = ⊥

-- the zone of a series of this kind whose events state zones of one name: none for dates, and none if the name means nothing
abbrev pub zone_of_name : Meaning → Kind → Option (List ℕ) → Option (ℤ → ℤ)
zone_of_name means Days name = None
zone_of_name means Moments None = None
zone_of_name means Moments (Some name) = meaning_of means name

-- the zone of a series of this kind, by the names of the zones that its events state
abbrev pub zone_of_names : Meaning → Kind → List (List ℕ) → Option (ℤ → ℤ)
zone_of_names means kind names = zone_of_name means kind (one_name names)

-- these are the first occurrences of a series
abbrev pub AreFirstTimes : Series → List ℤ → Type 0
AreFirstTimes series times = AreFirst (occurs_at series) FIRST_OCCURRENCES times

-- the first occurrences of a series, as moments too exactly if its zone is known
abbrev pub AreTimesIn : Option (ℤ → ℤ) → Series → FirstTimes → Type 0
AreTimesIn offset series Unread = ⊥
AreTimesIn None series (Local kind local) = (kind ≡ series.kind) × AreFirstTimes series local.items
AreTimesIn None series (Zoned local moments) = ⊥
AreTimesIn (Some offset) series (Local kind local) = ⊥
AreTimesIn (Some offset) series (Zoned local moments) = AreFirstTimes series local.items × AreTrueMoments offset local.items moments.items

-- the events of a key state a series that no limit refuses, and these are its first occurrences
pub record AreTimesOf (means : Meaning) (stated : Stated) (times : FirstTimes) : Type 0 where
  pub series : Series
  pub states : IsKeySeries stated series
  pub first : AreTimesIn (zone_of_names means series.kind stated.zones) series times

-- the first occurrences of the events of a key, unless they are refused
abbrev pub AreTimesBy : Meaning → Stated → FirstTimes → Type 0
AreTimesBy means stated Unread = IsRefused stated
AreTimesBy means stated times = AreTimesOf means stated times

-- the title of the first event of a key, and the first occurrences of what its events state
pub record AreFeatures (means : Meaning) (title : List ℕ) (stated : Stated) (features : Features) : Type 0 where
  pub title_is : features.title ≡ title
  pub times : AreTimesBy means stated features.times
