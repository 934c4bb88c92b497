use Rattle.std.proofs.Common.{◌≡◌, ◌++◌, drop, map}
use Rattle.rr_compare.specs.Turned.{turned_zone}
use Rattle.rr_compare.proofs.graph.turned_zones.Given as goal

-- the other zones are left
abbrev pub invariant-loop-zone : goal.invariant-loop-zone
invariant-loop-zone l = l.turned.items ++ map (turned_zone l.is_turned) (drop l.zone-index l.zones) ≡ map (turned_zone l.is_turned) l.zones
