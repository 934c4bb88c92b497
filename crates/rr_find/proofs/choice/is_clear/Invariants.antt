use Rattle.std.specs.Prelude.{◌≡◌, ◌<◌, get_or, ℕ}
use Rattle.rr_find.proofs.choice.is_clear.Given as goal

-- the sorts so far have no day left
abbrev pub invariant-loop-sort : goal.invariant-loop-sort
invariant-loop-sort l = (k : ℕ) → k < l.sort → get_or l.left k 0 ≡ 0
