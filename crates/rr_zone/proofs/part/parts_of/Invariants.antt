use Rattle.std.proofs.Common.{◌≡◌, map, take}
use Rattle.std.specs.Prelude.{All}
use Rattle.rr_events.specs.Segments.{section_in}
use Rattle.rr_zone.specs.Parts.{IsNumberedPart, part_in, part_of}
use Rattle.rr_zone.proofs.part.parts_of.Given as goal

abbrev pub invariant-loop-segment : goal.invariant-loop-segment
invariant-loop-segment l = record {
  parts : map part_in l.parts.items ≡ map part_of (map section_in (take l.segment-index l.segments));
  numbered : All IsNumberedPart l.parts.items;
}
