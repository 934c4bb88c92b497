use Rattle.std.proofs.Common.{◌-◌, length}
use Rattle.rr_groups.proofs.GroupLemmas.{IsUpTo}
use Rattle.rr_groups.proofs.group.groups_of_entries.Given as goal

-- the keys up to here have their groups
abbrev pub invariant-loop-run : goal.invariant-loop-run
invariant-loop-run l = IsUpTo l.entries l.groups.items l.start

abbrev pub decreases-loop-run : goal.decreases-loop-run
decreases-loop-run l = length l.entries - l.start
