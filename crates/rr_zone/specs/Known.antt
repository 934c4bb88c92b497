-- The clocks that the code keeps.
use Rattle.std.specs.Prelude.{◌≡◌, ℕ, ◌<◌, List, length, get_or}
use Rattle.rr_events.specs.RawLines.{RawLine}
use Rattle.rr_zone.specs.Zones.{zone_named}
use Rattle.rr_zone.specs.declared.clocks.NamedClock.{NamedClock}

-- a clock is that of the zone of its name among these zones
abbrev pub IsClockAmong : List (List RawLine) → NamedClock → Type 0
IsClockAmong zones entry = entry.clock ≡ zone_named zones entry.name

-- a zone of this name stands at a place
abbrev pub IsPlace : List NamedClock → List ℕ → ℕ → Type 0
IsPlace known name place = (place < length known) × ((other : NamedClock) → (get_or known place other).name ≡ name)
