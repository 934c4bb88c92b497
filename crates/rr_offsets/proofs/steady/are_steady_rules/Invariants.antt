use Rattle.std.proofs.Common.{◌≡◌, drop}
use Rattle.std.specs.List.{list_all}
use Rattle.rr_offsets.specs.Steady.{is_steady_rule}
use Rattle.rr_offsets.proofs.steady.are_steady_rules.Given as goal

abbrev pub invariant-loop-rule : goal.invariant-loop-rule
invariant-loop-rule l = list_all is_steady_rule (drop l.rule-index l.rules) ≡ list_all is_steady_rule l.rules
