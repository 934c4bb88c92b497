use Rattle.std.proofs.Common.{length}
use Rattle.rr_events.proofs.SegmentLemmas.{IsSoFar}
use Rattle.rr_events.proofs.segment.segments.Given as goal

abbrev pub invariant-loop-cutter : goal.invariant-loop-cutter
invariant-loop-cutter l = IsSoFar l.sought l.piece l.cutter.names l.cutter.begun l.cutter.found.items l.rest

abbrev pub decreases-loop-cutter : goal.decreases-loop-cutter
decreases-loop-cutter l = length l.rest.text.now
