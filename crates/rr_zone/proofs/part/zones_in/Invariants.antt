use Rattle.std.proofs.Common.{◌≡◌, ◌++◌, map, drop}
use Rattle.std.specs.Prelude.{All}
use Rattle.rr_zone.specs.Parts.{part_in, zones_in}
use Rattle.rr_zone.specs.Zones.{IsNumbered, raw_lines_in}
use Rattle.rr_zone.proofs.part.zones_in.Given as goal

abbrev pub invariant-loop-part : goal.invariant-loop-part
invariant-loop-part l = record {
  zones : map raw_lines_in l.zones.items ++ zones_in (map part_in (drop l.part-index l.parts)) ≡ zones_in (map part_in l.parts);
  numbered : All IsNumbered l.zones.items;
}
