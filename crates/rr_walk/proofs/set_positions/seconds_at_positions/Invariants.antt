use Rattle.std.specs.Prelude.{nat_lt}
use Rattle.rr_model.specs.Rising.Sets.{IsSetOf}
use Rattle.rr_walk.specs.SetPositions.{IsAtSome}
use Rattle.rr_walk.proofs.set_positions.seconds_at_positions.Given as goal

abbrev pub invariant-loop-position : goal.invariant-loop-position
invariant-loop-position l = IsSetOf nat_lt l.seconds (IsAtSome l.times l.before l.size l.positions l.position-index)
