use Rattle.std.proofs.Common.{◌≡◌, ◌++◌, ◌||◌, map, drop}
use Rattle.rr_zone.specs.Local.{has_zone, local_parts}
use Rattle.rr_zone.specs.Parts.{events_in, part_in}
use Rattle.rr_zone.proofs.local.push_parts.Given as goal

abbrev pub invariant-loop-part : goal.invariant-loop-part
invariant-loop-part l = record {
  value : l.out.items ++ local_parts l.fn.clocks (events_in (map part_in l.parts)) (map part_in (drop l.part-index l.parts))
      ≡ l.fn.out.items ++ local_parts l.fn.clocks (events_in (map part_in l.parts)) (map part_in l.parts);
  turned : (l.has_zone || has_zone l.fn.clocks (events_in (map part_in l.parts)) (map part_in (drop l.part-index l.parts)))
      ≡ has_zone l.fn.clocks (events_in (map part_in l.parts)) (map part_in l.parts);
  clocks : l.clocks ≡ l.fn.clocks;
}
