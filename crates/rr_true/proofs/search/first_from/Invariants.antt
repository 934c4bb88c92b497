use Rattle.std.proofs.Common.{◌≡◌, ℤ, pos, ◌+ℤ◌, ◌≤ℤ◌, ◌<ℤ◌}
use Rattle.std.specs.Int.{int_gap}
use Rattle.rr_true.specs.Changes.{offset_of}
use Rattle.rr_true.specs.Moments.{local_at}
use Rattle.rr_true.proofs.search.first_from.Given as goal

-- no moment before the next stretch has the local time
abbrev pub invariant-loop-start : goal.invariant-loop-start
invariant-loop-start l =
    (l.fn.from ≤ℤ l.start) × ((v : ℤ) → l.fn.from ≤ℤ v → v <ℤ l.start → local_at (offset_of l.offsets) v ≡ l.fn.local → ⊥)

abbrev pub decreases-loop-start : goal.decreases-loop-start
decreases-loop-start l = int_gap l.start (l.fn.local +ℤ pos 86_401)
