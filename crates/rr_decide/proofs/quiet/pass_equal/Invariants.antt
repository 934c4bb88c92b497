use Rattle.std.specs.Prelude.{ℕ, ◌<◌, ◌≤◌, ◌-◌, Some, get_or}
use Rattle.rr_decide.specs.Quiet.{IsAlike}
use Rattle.rr_decide.proofs.quiet.pass_equal.Given as goal

-- the places before this one have one number
abbrev pub invariant-loop-at : goal.invariant-loop-at
invariant-loop-at l =
    (l.from ≤ l.at) × (l.at ≤ l.end) × ((k : ℕ) → l.from ≤ k → k < l.at → IsAlike (Some l.below) (get_or l.xs k 0) (get_or l.ys k 0))

abbrev pub decreases-loop-at : goal.decreases-loop-at
decreases-loop-at l = l.end - l.at
