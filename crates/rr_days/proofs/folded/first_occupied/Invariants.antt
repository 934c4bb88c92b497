use Rattle.std.proofs.Common.{ℕ, ◌<◌, ◌++◌, drop}
use Rattle.rr_days.specs.Sketched.{IsEmptyAt}
use Rattle.rr_days.proofs.folded.first_occupied.Given as goal

-- the sets so far are empty
abbrev pub invariant-loop-place : goal.invariant-loop-place
invariant-loop-place l = (k : ℕ) → k < l.place → IsEmptyAt l.shapes (l.before ++ drop l.skipped l.row) k
