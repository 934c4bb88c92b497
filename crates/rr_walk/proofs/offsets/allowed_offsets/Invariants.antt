use Rattle.std.specs.Prelude.{◌<◌, IsTrue, nat_lt}
use Rattle.rr_model.specs.Rising.Sets.{IsSetOf}
use Rattle.rr_walk.specs.SetPositions.{offset_allowed}
use Rattle.rr_walk.proofs.offsets.allowed_offsets.Given as goal

abbrev pub invariant-loop-offset : goal.invariant-loop-offset
invariant-loop-offset l = IsSetOf nat_lt l.offsets.items (λ s. (s < l.offset) × IsTrue (offset_allowed l.rule.freq l.rule l.own.minute l.own.second s))
