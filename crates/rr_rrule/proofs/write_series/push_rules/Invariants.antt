use Rattle.std.specs.Prelude.{◌≡◌, ◌++◌, drop}
use Rattle.rr_model.specs.Text.Written.{lines_of, rule_line}
use Rattle.rr_rrule.proofs.write_series.push_rules.Given as goal

-- the others are left
abbrev pub invariant-loop-rule : goal.invariant-loop-rule
invariant-loop-rule l = l.out.items ++ lines_of (rule_line l.name) (drop l.rule-index l.rules) ≡ l.fn.out.items ++ lines_of (rule_line l.name) l.rules
