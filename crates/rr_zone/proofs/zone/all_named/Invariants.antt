use Rattle.std.proofs.Common.{◌≡◌, All, drop, map}
use Rattle.std.specs.List.{filter}
use Rattle.rr_zone.specs.Zones.{IsNumbered, has_name, raw_lines_in}
use Rattle.rr_zone.proofs.PartLemmas.{found_from}
use Rattle.rr_zone.proofs.zone.all_named.Given as goal

abbrev pub invariant-loop-zone : goal.invariant-loop-zone
invariant-loop-zone l = record {
  named : found_from (has_name l.name) l.named.items (drop l.zone-index l.zones) ≡ filter (has_name l.name) (map raw_lines_in l.zones);
  numbered : All IsNumbered l.named.items;
}
