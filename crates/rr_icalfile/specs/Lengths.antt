-- How long the occurrences of a key are (RFC 5545, sections 3.6.1, 3.8.2.2, 3.8.2.5 and 3.8.4.4).
use Rattle.std.specs.Prelude.{Bool, not, ℤ, List, [], ◌∷◌, map, Option, None, Some, option_and_then, option_map, Result, Ok, Err}
use Rattle.std.specs.List.{filter}
use Rattle.rr_length.specs.Length.{unstated}
use Rattle.rr_length.specs.Lengths.{Lengths}
use Rattle.rr_length.specs.declared.length.Length.{Length}
use Rattle.rr_length.specs.declared.lengths.Dated.{Dated}
use Rattle.rr_model.specs.declared.kind.Kind.{Kind}
use Rattle.rr_model.specs.declared.refusal.Refusal.{Refusal}
use Rattle.rr_model.specs.declared.stamp.Stamp.{Stamp}
use Rattle.rr_icalfile.specs.Edited.{KeyEvents, common_start, if_read, stamp_on, start_line, start_on}
use Rattle.rr_icalfile.specs.declared.event.Event.{Event}

-- ---- the instances

-- an instance that is not cancelled takes place
abbrev pub takes_place : Event → Bool
takes_place event = not event.is_cancelled

-- a length at a start, if both are told
abbrev pub dated_by : Result ℤ Refusal → Option Length → Option Dated
dated_by (Ok at) (Some length) = Some (record { at = at; length = length })
dated_by (Ok at) None = None
dated_by (Err r) length = None

-- the length of an instance, which is that of its own lines, at its start beside the start of its series
abbrev pub dated_of : Option ℤ → Stamp → Event → Option Dated
dated_of offset start event = dated_by (start_on offset start (start_line event.scan.used)) event.length

-- all of these, unless one is not told
abbrev pub if_each_is_told : List (Option Dated) → Option (List Dated)
if_each_is_told [] = Some []
if_each_is_told (None ∷ more) = None
if_each_is_told (Some dated ∷ more) = option_map (λ (rest : List Dated). dated ∷ rest) (if_each_is_told more)

-- the lengths of the instances that take place, in their order
abbrev pub dated_in : Option ℤ → Stamp → List Event → Option (List Dated)
dated_in offset start instances = if_each_is_told (map (dated_of offset start) (filter takes_place instances))

-- ---- the key

-- the start beside which instances start: that of their series, or without one their common start
abbrev pub start_for : Option Event → List Event → Option Stamp
start_for None instances = Some (common_start instances)
start_for (Some event) instances = if_read (stamp_on (start_line event.scan.used))

-- the usual length: that of the event of the series, cancelled or not; without one nothing occurs that has it
abbrev pub usual_of : Option Event → Kind → Option Length
usual_of None kind = Some (unstated kind)
usual_of (Some event) kind = event.length

-- the usual length and those of instances, if both are told
abbrev pub lengths_by : Option Length → Option (List Dated) → Option Lengths
lengths_by (Some usual) (Some dated) = Some (record { usual = usual; dated = dated })
lengths_by (Some usual) None = None
lengths_by None dated = None

-- the lengths of the events of a key beside this start
abbrev pub lengths_beside : Option ℤ → KeyEvents → Stamp → Option Lengths
lengths_beside offset all start = lengths_by (usual_of all.series start.kind) (dated_in offset start all.instances)

-- How long the occurrences of a key are by its events: the usual length, and that of each instance that takes place, at its start. None is told if
-- one of these lengths or starts is not.
abbrev pub lengths_of : Option ℤ → KeyEvents → Option Lengths
lengths_of offset all = option_and_then (lengths_beside offset all) (start_for all.series all.instances)
