use Rattle.std.specs.Prelude.{◌≡◌, ℕ, IsTrue, ◌<◌, ◌≤◌, get_or}
use Rattle.rr_decide.proofs.long.greatest_of_equal.Given as goal

-- if all are equal, both rows are at the places before this one, and no number there is greater than the greatest
abbrev pub invariant-loop-index : goal.invariant-loop-index
invariant-loop-index l =
    (IsTrue l.equal → (k : ℕ) → l.from ≤ k → k < l.index → get_or l.xs k 0 ≡ get_or l.ys k 0)
    × ((k : ℕ) → l.from ≤ k → k < l.index → get_or l.xs k 0 ≤ l.greatest)
