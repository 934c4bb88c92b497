use Rattle.std.specs.Prelude.{◌≡◌, ◌++◌, drop}
use Rattle.rr_model.specs.Text.Written.{lines_of}
use Rattle.rr_model.specs.Vcal.Written.{vcal_line, vrule_text}
use Rattle.rr_vcal.proofs.written.push_rules.Given as goal

-- the rules so far were added
abbrev pub invariant-loop-rule : goal.invariant-loop-rule
invariant-loop-rule l =
    l.out.items ++ lines_of (λ rule. vcal_line l.name (vrule_text rule)) (drop l.rule-index l.rules)
    ≡ l.fn.out.items ++ lines_of (λ rule. vcal_line l.name (vrule_text rule)) l.rules
