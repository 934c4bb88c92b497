use Rattle.std.proofs.Common.{◌≡◌, take}
use Rattle.rr_model.specs.Vcal.Counterpart.{rules_of_vrules}
use Rattle.rr_vcal.proofs.series.rules_of.Given as goal

abbrev pub invariant-loop-rule : goal.invariant-loop-rule
invariant-loop-rule l = l.made ≡ rules_of_vrules l.kind l.start (take l.rule-index l.rules)
