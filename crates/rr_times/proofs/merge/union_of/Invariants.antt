use Rattle.std.proofs.Common.{length, ◌+◌, ◌-◌}
use Rattle.rr_times.proofs.MergeLemmas.{IsMerged, InEither}
use Rattle.rr_times.proofs.merge.union_of.Given as goal

abbrev pub invariant-loop-i : goal.invariant-loop-i
invariant-loop-i l = IsMerged (InEither l.a l.b) l.a l.b l.both.items l.i l.j

abbrev pub decreases-loop-i : goal.decreases-loop-i
decreases-loop-i l = (length l.a - l.i) + (length l.b - l.j)
