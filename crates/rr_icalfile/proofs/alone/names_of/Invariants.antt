use Rattle.std.proofs.Common.{◌≡◌, drop}
use Rattle.rr_seam.specs.Steps.{key_in_turn}
use Rattle.rr_icalfile.specs.Edited.{no_names, with_name}
use Rattle.rr_icalfile.proofs.alone.names_of.Given as goal

abbrev pub invariant-loop-event : goal.invariant-loop-event
invariant-loop-event l = key_in_turn with_name l.names (drop l.event-index l.instances) ≡ key_in_turn with_name no_names l.instances
