use Rattle.std.proofs.Common.{◌≡◌, false, drop}
use Rattle.rr_icalfile.specs.Taken.{has_two_series}
use Rattle.rr_icalfile.proofs.taken.has_two_series.Given as goal

abbrev pub invariant-loop-event : goal.invariant-loop-event
invariant-loop-event l = has_two_series l.has_one (drop l.event-index l.events) ≡ has_two_series false l.events
