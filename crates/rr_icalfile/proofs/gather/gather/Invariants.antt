use Rattle.std.proofs.Common.{◌≡◌, length, drop}
use Rattle.rr_seam.specs.Steps.{key_in_turn}
use Rattle.rr_icalfile.specs.Edited.{key_events, with_event}
use Rattle.rr_icalfile.proofs.gather.gather.Given as goal

-- those of the events to come are left
abbrev pub invariant-loop-event : goal.invariant-loop-event
invariant-loop-event l = key_in_turn with_event l.gathered (drop (length l.yielded) l.fn.events.items) ≡ key_events l.fn.events.items
