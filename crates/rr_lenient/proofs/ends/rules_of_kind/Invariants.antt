use Rattle.std.proofs.Common.{◌≡◌, map, take}
use Rattle.rr_lenient.specs.Ends.{rule_of_kind}
use Rattle.rr_lenient.proofs.ends.rules_of_kind.Given as goal

abbrev pub invariant-loop-rule : goal.invariant-loop-rule
invariant-loop-rule l = l.made ≡ map (rule_of_kind l.kind) (take l.rule-index l.rules)
