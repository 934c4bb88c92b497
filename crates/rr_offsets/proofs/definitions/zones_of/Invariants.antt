use Rattle.std.proofs.Common.{◌≡◌, ◌++◌, map, drop}
use Rattle.std.specs.Prelude.{All}
use Rattle.rr_events.specs.Segments.{section_in}
use Rattle.rr_zone.specs.Parts.{part_of, zones_in}
use Rattle.rr_zone.specs.Zones.{IsNumbered, raw_lines_in}
use Rattle.rr_offsets.proofs.definitions.zones_of.Given as goal

abbrev pub invariant-loop-segment : goal.invariant-loop-segment
invariant-loop-segment l = record {
  zones : map raw_lines_in l.zones.items ++ zones_in (map part_of (map section_in (drop l.segment-index l.segments)))
      ≡ zones_in (map part_of (map section_in l.segments));
  numbered : All IsNumbered l.zones.items;
}
