use Rattle.std.specs.Prelude.{nat_lt}
use Rattle.rr_model.specs.Rising.Sets.{IsSetOf}
use Rattle.rr_walk.proofs.OffsetLemmas.{KeptTo}
use Rattle.rr_walk.proofs.offsets.at_offsets.Given as goal

abbrev pub invariant-loop-second : goal.invariant-loop-second
invariant-loop-second l = IsSetOf nat_lt l.chosen.items (KeptTo l.second-items l.listed l.unit l.second-index)
