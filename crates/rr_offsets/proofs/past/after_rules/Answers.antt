use Rattle.std.proofs.Common.{w64, to_z-of_z, FitsSigned, subst}
use Rattle.std.proofs.lemmas.List.{take_all}
use Rattle.rr_offsets.specs.Past.{EndsBefore}
use Rattle.rr_offsets.proofs.PastLemmas.{later_past, one_rule}
use Rattle.rr_offsets.proofs.past.after_rules.Goals as goal

pub loop-rule-preserved : goal.loop-rule-preserved
loop-rule-preserved c =
    let new = c.after_end-last.result in
    let fits : FitsSigned w64 new = record { sfits = c.after_end-last.type_inv } in
    let e = rw (to_z-of_z c.ranges.from) at c.after_end-last.ensures in
    let i = rw (to_z-of_z c.ranges.from, to_z-of_z c.ranges.past) at c.loop-rule.invariant in
    let here = subst (λ rule. EndsBefore c.args.from new rule.end) c.rule-item.is e.end in
    rw (to_z-of_z fits, to_z-of_z c.ranges.past, to_z-of_z c.ranges.from) (record {
      past = later_past c.args.past _ new i.past e.past;
      rules = one_rule _ new e.past.from c.args.from c.args.rules.now c.loop-rule.rule-index c.rule-item.result c.loop-rule-test.true i.rules here;
    })

pub returns-clause-rules : goal.returns-clause-rules
returns-clause-rules c =
    rw (take_all c.loop-rule.rule-index c.args.rules.now c.loop-rule-test.false, to_z-of_z c.ranges.from) at c.loop-rule.invariant.rules
