use Rattle.std.proofs.Common.{length}
use Rattle.rr_events.specs.Cutting.{IsOneLine}
use Rattle.rr_events.proofs.cut.cut_line.Given as goal

abbrev pub invariant-loop-more : goal.invariant-loop-more
invariant-loop-more l = IsOneLine l.number l.text l.line l.rest l.next

abbrev pub decreases-loop-more : goal.decreases-loop-more
decreases-loop-more l = length l.rest
