use Rattle.std.proofs.Common.{◌≡◌, ◌+◌, drop}
use Rattle.rr_model.specs.Series.Soundness.{rules_refusal}
use Rattle.rr_check.proofs.refusals.rules_refusal.Given as goal

abbrev pub invariant-loop-rule : goal.invariant-loop-rule
invariant-loop-rule l =
    (l.number ≡ l.rule-index + 1) × (rules_refusal l.number l.kind l.start (drop l.rule-index l.rules) ≡ rules_refusal 1 l.kind l.start l.rules)
