use Rattle.std.proofs.Common.{◌≡◌, ◌++◌, drop, map}
use Rattle.rr_icalfile.specs.Event.{event_of}
use Rattle.rr_icalfile.specs.Parts.{lines_of}
use Rattle.rr_icalfile.proofs.taken.events_of.Given as goal

abbrev pub invariant-loop-part : goal.invariant-loop-part
invariant-loop-part l =
    l.events.items ++ map event_of (map lines_of (drop l.part-index l.parts)) ≡ map event_of (map lines_of l.parts)
