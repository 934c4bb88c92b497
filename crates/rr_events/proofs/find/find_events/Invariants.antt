use Rattle.std.proofs.Common.{length}
use Rattle.rr_events.proofs.FindLemmas.{IsSoFar}
use Rattle.rr_events.proofs.find.find_events.Given as goal

abbrev pub invariant-loop-finder : goal.invariant-loop-finder
invariant-loop-finder l = IsSoFar l.text l.finder.names l.finder.begun l.finder.found.items l.rest l.number

abbrev pub decreases-loop-finder : goal.decreases-loop-finder
decreases-loop-finder l = length l.rest
