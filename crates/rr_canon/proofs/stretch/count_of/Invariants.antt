use Rattle.std.specs.Prelude.{◌≡◌, ℕ, ◌<◌, get_or}
use Rattle.rr_canon.proofs.stretch.count_of.Given as goal

-- the numbers before this one are the same
abbrev pub invariant-loop-index : goal.invariant-loop-index
invariant-loop-index l = (k : ℕ) → k < l.index → get_or l.numbers k 0 ≡ l.number
