use Rattle.std.proofs.Common.{◌≡◌, ◌++◌, drop}
use Rattle.rr_model.proofs.lists.rules.Rules.copy.Given as goal

abbrev pub invariant-loop-rule : goal.invariant-loop-rule
invariant-loop-rule l = l.made ++ drop l.rule-index l.self ≡ l.self
