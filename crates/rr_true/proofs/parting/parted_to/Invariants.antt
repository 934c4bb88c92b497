use Rattle.std.specs.Int.{int_gap}
use Rattle.rr_true.specs.Changes.{offset_of}
use Rattle.rr_true.proofs.ApartLemmas.{IsPartedSoFar}
use Rattle.rr_true.proofs.parting.parted_to.Given as goal

-- what is found so far
abbrev pub invariant-loop-at : goal.invariant-loop-at
invariant-loop-at l = IsPartedSoFar (offset_of l.a) (offset_of l.b) l.fn.end l.at l.found

abbrev pub decreases-loop-at : goal.decreases-loop-at
decreases-loop-at l = int_gap l.at l.fn.end
