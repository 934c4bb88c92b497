use Rattle.std.proofs.Common.{◌≡◌, ◌++◌, drop}
use Rattle.rr_icalfile.specs.Calendar.{zones_of_all}
use Rattle.rr_icalfile.proofs.stated.put_all_zones.Given as goal

abbrev pub invariant-loop-event : goal.invariant-loop-event
invariant-loop-event l = l.zones ++ zones_of_all (drop l.event-index l.events) ≡ l.fn.zones ++ zones_of_all l.events
