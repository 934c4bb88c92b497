use Rattle.std.proofs.Common.{◌≡◌, take, map}
use Rattle.rr_translate.specs.OneEnd.{with_one_end}
use Rattle.rr_translate.proofs.one_end.rules_with_one_end.Given as goal

abbrev pub invariant-loop-rule : goal.invariant-loop-rule
invariant-loop-rule l = l.made ≡ map (with_one_end l.kind l.start) (take l.rule-index l.rules)
