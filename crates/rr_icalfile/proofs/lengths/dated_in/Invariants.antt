use Rattle.std.proofs.Common.{◌≡◌, ◌++◌, drop}
use Rattle.std.specs.Prelude.{option_map}
use Rattle.rr_icalfile.specs.Lengths.{dated_in}
use Rattle.rr_icalfile.proofs.lengths.dated_in.Given as goal

-- those of the instances to come are left
abbrev pub invariant-loop-event : goal.invariant-loop-event
invariant-loop-event l =
    option_map (λ rest. l.dated.items ++ rest) (dated_in l.setting.offset l.setting.start (drop l.event-index l.instances))
    ≡ dated_in l.setting.offset l.setting.start l.instances
