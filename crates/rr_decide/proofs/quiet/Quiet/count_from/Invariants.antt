use Rattle.std.specs.Prelude.{ℕ, ◌<◌, ◌≤◌, get_or}
use Rattle.rr_decide.specs.Quiet.{HasPair, WereThere}
use Rattle.rr_decide.proofs.quiet.Quiet.count_from.Given as goal

-- the places before this one have a remembered pair, and no pair has come
abbrev pub invariant-loop-index : goal.invariant-loop-index
invariant-loop-index l =
    ((k : ℕ) → l.from ≤ k → k < l.index → HasPair l.fn.self (get_or l.xs k 0) (get_or l.ys k 0)) × WereThere l.fn.self l.self
