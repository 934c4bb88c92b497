use Rattle.std.specs.Prelude.{get_or}
use Rattle.rr_family.specs.Sorts.{many_sorts}
use Rattle.rr_family.specs.Tally.{sum_below}
use Rattle.rr_find.specs.ByCounts.{AreTakenSoFar}
use Rattle.rr_find.specs.Counted.{HasFewDays}
use Rattle.rr_find.proofs.choice.taken_items.Given as goal

-- the items so far are taken, and the days that they have are no longer left
abbrev pub invariant-loop-index : goal.invariant-loop-index
invariant-loop-index l =
    AreTakenSoFar l.kind (λ sort. get_or l.counts.occupied sort 0) (λ sort. get_or l.counts.free sort 0) (λ sort. get_or l.left sort 0) l.items
    × HasFewDays l.left

-- the days that are left
abbrev pub decreases-loop-index : goal.decreases-loop-index
decreases-loop-index l = sum_below (many_sorts l.kind) (λ sort. get_or l.left sort 0)
