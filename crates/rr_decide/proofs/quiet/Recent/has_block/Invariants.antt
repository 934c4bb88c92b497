use Rattle.std.specs.Prelude.{ℕ, IsTrue, ◌<◌, ◌≤◌, Some, get_or}
use Rattle.rr_decide.specs.Quiet.{IsRecent}
use Rattle.rr_decide.proofs.quiet.Recent.has_block.Given as goal

-- if all is true, the places of the block before this one have one of the pairs
abbrev pub invariant-loop-index : goal.invariant-loop-index
invariant-loop-index l = IsTrue l.all → (k : ℕ) → l.from ≤ k → k < l.index → IsRecent (Some l.self) (get_or l.xs k 0) (get_or l.ys k 0)
