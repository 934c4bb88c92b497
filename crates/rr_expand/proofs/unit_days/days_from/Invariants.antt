use Rattle.std.specs.Prelude.{int_lt}
use Rattle.rr_model.specs.Rising.Sets.{IsSetOf}
use Rattle.rr_expand.specs.Expansion.{IsAllowedDay}
use Rattle.rr_expand.proofs.unit_days.days_from.Given as goal

abbrev pub invariant-loop-k : goal.invariant-loop-k
invariant-loop-k l = IsSetOf int_lt l.days (IsAllowedDay l.rule l.start.number l.first l.k)
