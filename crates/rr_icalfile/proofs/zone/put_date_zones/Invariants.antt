use Rattle.std.proofs.Common.{◌≡◌, ◌++◌, drop, map}
use Rattle.std.specs.Prelude.{flat_map}
use Rattle.rr_icalfile.specs.Zones.{date_zones}
use Rattle.rr_icalfile.proofs.zone.put_date_zones.Given as goal

abbrev pub invariant-loop-line : goal.invariant-loop-line
invariant-loop-line l =
    l.zones ++ flat_map date_zones (map (λ line. line.now) (drop l.line-index l.own))
    ≡ l.fn.zones ++ flat_map date_zones (map (λ line. line.now) l.own)
