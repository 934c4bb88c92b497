use Rattle.std.proofs.Common.{◌≤◌, ◌-◌, ◌↔◌, ℕ, Contains}
use Rattle.rr_lazy.proofs.StretchLemmas.{StandsFirst}
use Rattle.rr_lazy.proofs.stretch.take_out.Given as goal

abbrev pub invariant-loop-index : goal.invariant-loop-index
invariant-loop-index l = (l.first ≤ l.index) × ((s : ℕ) → Contains l.times s ↔ (Contains l.fn.times s × (StandsFirst l.kind l.dates l.day l.index s → ⊥)))

abbrev pub decreases-loop-index : goal.decreases-loop-index
decreases-loop-index l = l.last - l.index
