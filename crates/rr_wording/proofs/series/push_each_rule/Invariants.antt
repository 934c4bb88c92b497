use Rattle.std.specs.Prelude.{◌≡◌, ◌++◌, drop}
use Rattle.rr_wording.specs.Words.{each_rule}
use Rattle.rr_wording.proofs.series.push_each_rule.Given as goal

-- the others are left
abbrev pub invariant-loop-rule : goal.invariant-loop-rule
invariant-loop-rule l = l.out.items ++ each_rule l.lead l.kind l.start (drop l.rule-index l.rules) ≡ l.fn.out.items ++ each_rule l.lead l.kind l.start l.rules
