use Rattle.std.proofs.Common.{◌≡◌, drop, None}
use Rattle.rr_icalfile.specs.Edited.{common_start_from}
use Rattle.rr_icalfile.proofs.alone.common_start.Given as goal

abbrev pub invariant-loop-event : goal.invariant-loop-event
invariant-loop-event l = common_start_from l.start (drop l.event-index l.instances) ≡ common_start_from None l.instances
