use Rattle.std.specs.Prelude.{◌≡◌, ℕ, ◌<◌, ◌≤◌, ◌-◌, get_or}
use Rattle.rr_runs.proofs.blocks.same_blocks.Given as goal

-- the numbers before this index are the same
abbrev pub invariant-loop-at : goal.invariant-loop-at
invariant-loop-at g l = (l.at ≤ l.end) × ((k : ℕ) → k < l.at → get_or l.numbers k 0 ≡ l.number)

abbrev pub decreases-loop-at : goal.decreases-loop-at
decreases-loop-at g l = l.end - l.at
