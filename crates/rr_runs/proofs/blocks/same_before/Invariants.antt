use Rattle.std.proofs.Common.{◌≡◌, ◌<◌, ℕ, get_or}
use Rattle.rr_runs.proofs.blocks.same_before.Given as goal

-- the numbers so far are this one
abbrev pub invariant-loop-k : goal.invariant-loop-k
invariant-loop-k l = (i : ℕ) → i < l.k → get_or l.numbers i 0 ≡ l.number
