use Rattle.std.proofs.Common.{◌≡◌, ◌++◌, drop, map}
use Rattle.rr_events.specs.Segments.{section_in}
use Rattle.rr_vcalfile.specs.Events.{events_in}
use Rattle.rr_vcalfile.specs.Parts.{lines_in}
use Rattle.rr_vcalfile.proofs.find.put_parts.Given as goal

abbrev pub invariant-loop-segment : goal.invariant-loop-segment
invariant-loop-segment l =
    map lines_in l.parts.items ++ events_in (map section_in (drop l.segment-index l.segments))
    ≡ map lines_in l.fn.parts.items ++ events_in (map section_in l.segments)
