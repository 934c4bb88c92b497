use Rattle.std.specs.Prelude.{ℕ, ◌<◌, ◌≤◌, ◌-◌, get_or}
use Rattle.rr_decide.specs.Quiet.{HasPair, WereThere}
use Rattle.rr_decide.proofs.quiet.Quiet.count.Given as goal

-- the places before this one have a remembered pair, and no pair has come
abbrev pub invariant-loop-from : goal.invariant-loop-from
invariant-loop-from l =
    (l.from ≤ l.end) × ((k : ℕ) → k < l.from → HasPair l.fn.self (get_or l.xs k 0) (get_or l.ys k 0)) × WereThere l.fn.self l.self

abbrev pub decreases-loop-from : goal.decreases-loop-from
decreases-loop-from l = l.end - l.from
