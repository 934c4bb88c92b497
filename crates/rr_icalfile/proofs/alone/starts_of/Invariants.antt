use Rattle.std.proofs.Common.{◌≡◌, drop}
use Rattle.rr_seam.specs.Steps.{key_in_turn}
use Rattle.rr_icalfile.specs.Edited.{starts_of, with_event_start}
use Rattle.rr_icalfile.proofs.alone.starts_of.Given as goal

abbrev pub invariant-loop-event : goal.invariant-loop-event
invariant-loop-event l =
    key_in_turn (with_event_start l.setting.offset l.setting.start) l.shifts (drop l.event-index l.instances)
    ≡ starts_of l.setting.offset l.setting.start l.instances
