use Rattle.std.proofs.Common.{◌≡◌, drop}
use Rattle.rr_model.specs.Series.Soundness.{ends_refusal}
use Rattle.rr_check.proofs.refusals.ends_refusal.Given as goal

abbrev pub invariant-loop-rule : goal.invariant-loop-rule
invariant-loop-rule l = ends_refusal l.kind l.start (drop l.rule-index l.rules) ≡ ends_refusal l.kind l.start l.rules
