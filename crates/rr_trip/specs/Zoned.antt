-- A calendar with what the names of its zones mean (RFC 5545, section 3.2.19).
use Rattle.std.specs.Prelude.{ℕ, if◌then◌else◌, List, codes, Option, Some, ℤ, Bool, bytes_eq}
use Rattle.rr_seam.specs.Stated.{Calendar, Stated}
use Rattle.rr_seam.specs.declared.key.Key.{Key}
use Rattle.rr_true.specs.Occurrences.{utc}

-- What a name of a zone means: at each moment of UTC, how many seconds local time is ahead of it; or nothing.
abbrev pub Meaning : Type 0
Meaning = List ℕ → Option (ℤ → ℤ)

-- a calendar: its keys, what its events state, their titles, and what the names of its zones mean
pub record ZonedCalendar : Type 0 where
  pub keys : List Key
  pub stated : List ℕ → Stated
  pub titles : ℕ → List ℕ
  pub means : Meaning

-- a calendar whose names mean this
abbrev pub zoned : Calendar → Meaning → ZonedCalendar
zoned calendar means = record { keys = calendar.keys; stated = calendar.stated; titles = calendar.titles; means = means }

-- the name of UTC
abbrev pub is_utc : List ℕ → Bool
is_utc name = bytes_eq name (codes "Z")

-- what a name means in a calendar: `Z` is UTC in each
abbrev pub meaning_of : Meaning → List ℕ → Option (ℤ → ℤ)
meaning_of means name = if is_utc name then Some utc else means name
