use Rattle.std.proofs.Common.{length}
use Rattle.rr_events.specs.Cutting.{AreEmpty}
use Rattle.rr_events.proofs.cut.after_empty_lines.Given as goal

abbrev pub invariant-loop-after : goal.invariant-loop-after
invariant-loop-after l = AreEmpty l.number l.text l.rest.text.now l.rest.number

abbrev pub decreases-loop-after : goal.decreases-loop-after
decreases-loop-after l = length l.rest.text.now
