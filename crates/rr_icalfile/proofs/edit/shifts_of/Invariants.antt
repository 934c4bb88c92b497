use Rattle.std.proofs.Common.{◌≡◌, drop}
use Rattle.rr_seam.specs.Steps.{key_in_turn}
use Rattle.rr_icalfile.specs.Edited.{shifts_of, with_instance}
use Rattle.rr_icalfile.proofs.edit.shifts_of.Given as goal

abbrev pub invariant-loop-event : goal.invariant-loop-event
invariant-loop-event l =
    key_in_turn (with_instance l.setting.offset l.setting.start) l.shifts (drop l.event-index l.instances)
    ≡ shifts_of l.setting.offset l.setting.start l.instances
