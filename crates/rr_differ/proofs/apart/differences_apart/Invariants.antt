use Rattle.std.proofs.Common.{◌+◌, ◌-◌, ◌≤◌, length}
use Rattle.std.specs.Prelude.{IfSome}
use Rattle.rr_differ.specs.Apart.{IsWithinSteps}
use Rattle.rr_differ.proofs.ApartLemmas.{AreFoundApart}
use Rattle.rr_differ.proofs.apart.differences_apart.Given as goal

-- what is found is in order, and what comes next in either set is at hand
abbrev pub invariant-loop-next_a : goal.invariant-loop-next_a
invariant-loop-next_a g l = record {
  found : AreFoundApart (g.A.DaySeq.sketch l.a) (g.B.DaySeq.sketch l.b) l.found.items l.next_a l.next_b;
  few : length l.found.items ≤ l.count;
  near_a : IfSome l.next_a (IsWithinSteps (length l.found.items + 1));
  near_b : IfSome l.next_b (IsWithinSteps (length l.found.items + 1));
}

abbrev pub decreases-loop-next_a : goal.decreases-loop-next_a
decreases-loop-next_a g l = l.count - length l.found.items
