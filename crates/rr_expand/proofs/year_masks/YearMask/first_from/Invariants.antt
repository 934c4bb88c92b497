use Rattle.std.proofs.Common.{◌-◌, ◌≤◌}
use Rattle.std.specs.Prelude.{None}
use Rattle.rr_expand.specs.Years.{IsFirstBit}
use Rattle.rr_expand.proofs.year_masks.YearMask.first_from.Given as goal

abbrev pub invariant-loop-next : goal.invariant-loop-next
invariant-loop-next l = record { begun : l.fn.from ≤ l.next; none_before : IsFirstBit l.self.bits l.fn.from l.next None }

abbrev pub decreases-loop-next : goal.decreases-loop-next
decreases-loop-next l = l.end - l.next
