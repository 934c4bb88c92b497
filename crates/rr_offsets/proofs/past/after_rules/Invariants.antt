use Rattle.std.proofs.Common.{take}
use Rattle.rr_offsets.specs.Past.{HaveEnds, IsLaterPast}
use Rattle.rr_offsets.proofs.past.after_rules.Given as goal

abbrev pub invariant-loop-rule : goal.invariant-loop-rule
invariant-loop-rule l = record {
  past : IsLaterPast l.past l.last;
  rules : HaveEnds l.from l.last (take l.rule-index l.rules);
}
