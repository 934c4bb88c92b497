-- What values of the program state: events and lists of events by the data that they stand for, and by what moments of UTC are turned.
use Rattle.std.specs.Prelude.{map, Option, option_map, ℤ}
use Rattle.std.specs.Borrow.{Bor}
use Rattle.serde_json.specs.View.{view}
use Rattle.rr_true.specs.Changes.{ZoneOffsets, offset_of}
use Rattle.rr_graphfile.specs.Stated.{Gathered, Lists, Placed}
use Rattle.rr_graphfile.specs.Turning.{Turning}
use Rattle.rr_graphfile.specs.declared.gather.Gathered.{Gathered as ParsedGathered}
use Rattle.rr_graphfile.specs.declared.gather.Placed.{Placed as ParsedPlaced}
use Rattle.rr_graphfile.specs.declared.instances.Lists.{Lists as ParsedLists}
use Rattle.rr_graphfile.specs.declared.turning.Turning.{Turning as ParsedTurning}

-- an event with its number
abbrev pub placed_in : ParsedPlaced → Placed
placed_in placed = record { place = placed.place; event = view placed.event.now }

-- the series of a key, and its first instance that stands alone
abbrev pub gathered_in : ParsedGathered → Gathered
gathered_in gathered = record { series = option_map placed_in gathered.series; instance = gathered.instance }

-- the instances that a series lists
abbrev pub lists_of : ParsedLists → Lists
lists_of lists = record { cancelled = map view lists.cancelled.now; exceptions = map view lists.exceptions.now }

-- how far local time of a zone is ahead of UTC, if it is known
abbrev pub ahead_in : Option (Bor ZoneOffsets) → Option (ℤ → ℤ)
ahead_in zone = option_map (λ (offsets : Bor ZoneOffsets). offset_of offsets.now) zone

-- by what moments of UTC are turned
abbrev pub turning_in : ParsedTurning → Turning
turning_in turning = record { name = turning.name.now; ahead = ahead_in turning.zone; stated = turning.stated }
