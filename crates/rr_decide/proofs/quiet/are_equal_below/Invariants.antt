use Rattle.std.specs.Prelude.{◌≡◌, ℕ, IsTrue, ◌<◌, ◌≤◌, get_or}
use Rattle.rr_decide.proofs.quiet.are_equal_below.Given as goal

-- at the places before this one no number of the first row is greater; if `equal` is true, the rows are equal there
abbrev pub invariant-loop-index : goal.invariant-loop-index
invariant-loop-index l =
    (IsTrue l.equal → (k : ℕ) → l.from ≤ k → k < l.index → get_or l.xs k 0 ≡ get_or l.ys k 0)
    × ((k : ℕ) → l.from ≤ k → k < l.index → get_or l.xs k 0 ≤ l.greatest)
