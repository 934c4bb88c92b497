use Rattle.std.proofs.Common.{◌≡◌, ◌++◌, drop}
use Rattle.rr_icalfile.proofs.zone.ZoneList.put_all.Given as goal

abbrev pub invariant-loop-zone : goal.invariant-loop-zone
invariant-loop-zone l = l.self ++ drop l.zone-index l.zones ≡ l.fn.self ++ l.zones
