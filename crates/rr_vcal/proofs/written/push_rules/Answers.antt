use Rattle.rr_text.proofs.WrittenListLemmas.{one_written}
use Rattle.rr_vcal.specs.Writing.{vcal_rule_line}
use Rattle.rr_vcal.proofs.written.push_rules.Goals as goal

pub loop-rule-preserved : goal.loop-rule-preserved
loop-rule-preserved c =
    one_written (vcal_rule_line c.args.name.now) c.loop-rule.out.items c.push_rule_line.new.out.items _ c.args.rules.now c.loop-rule.rule-index
    c.rule-item.result _ c.loop-rule-test.true c.rule-item.is c.loop-rule.invariant c.in_ok-push_rule_line.ensures
