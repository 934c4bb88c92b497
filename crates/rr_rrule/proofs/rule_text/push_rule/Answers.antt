use Rattle.std.proofs.Common.{rules, append_assoc}
use Rattle.rr_rrule.proofs.PushLemmas.{rule_by_stretches}
use Rattle.rr_rrule.proofs.rule_text.push_rule.Goals as goal

pub returns : goal.returns
returns c = rw rule_by_stretches (search (rules, append_assoc))
