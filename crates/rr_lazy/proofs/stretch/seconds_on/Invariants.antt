use Rattle.std.proofs.Common.{◌≤◌, ◌-◌, nat_lt}
use Rattle.rr_model.specs.Rising.Sets.{IsSetOf}
use Rattle.rr_lazy.proofs.StretchLemmas.{StandsFirst}
use Rattle.rr_lazy.proofs.stretch.seconds_on.Given as goal

abbrev pub invariant-loop-index : goal.invariant-loop-index
invariant-loop-index l = (l.first ≤ l.index) × IsSetOf nat_lt l.seconds.items (StandsFirst l.kind l.dates l.day l.index)

abbrev pub decreases-loop-index : goal.decreases-loop-index
decreases-loop-index l = l.last - l.index
