use Rattle.std.proofs.Common.{◌≡◌, ◌++◌, length, drop, map}
use Rattle.rr_icalfile.specs.Days.{instance_with_time}
use Rattle.rr_icalfile.proofs.day.instances_with_time.Given as goal

-- those of the instances to come are left
abbrev pub invariant-loop-event : goal.invariant-loop-event
invariant-loop-event l =
    l.made.items ++ map (instance_with_time l.time) (drop (length l.yielded) l.fn.instances.items)
    ≡ map (instance_with_time l.time) l.fn.instances.items
