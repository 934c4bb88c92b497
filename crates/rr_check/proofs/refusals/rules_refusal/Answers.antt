use Rattle.std.proofs.Common.{arith, rules, ◌≡◌, ◌∙◌, true, false, sym, ap, is_some, FitsSigned, w64, to_z-of_z}
use Rattle.rr_model.specs.Series.Soundness.{rule_refusal}
use Rattle.rr_check.proofs.RefusalLemmas.{refusal_is, refusal_later}
use Rattle.rr_check.proofs.LoopLemmas.{next_is}
use Rattle.rr_check.proofs.refusals.rules_refusal.Goals as goal

pub returns-then-is_some : goal.returns-then-is_some
returns-then-is_some c =
    let fits : FitsSigned w64 c.args.start = search rules in
    let rule = c.rule-item.result in
    let i = c.loop-rule.rule-index in
    let next = next_is c.args.rules.now i rule c.loop-rule-test.true c.rule-item.is in
    let refusal : c.rule_refusal-refusal.result ≡ rule_refusal c.loop-rule.number c.args.kind c.args.start rule =
    rw (to_z-of_z fits) at c.rule_refusal-refusal.ensures in
    let some : is_some (rule_refusal c.loop-rule.number c.args.kind c.args.start rule) ≡ true =
    ap is_some (sym refusal) ∙ sym c.is_some.ensures ∙ c.if-is_some.true in
    refusal ∙ sym (refusal_is c.loop-rule.number i c.args.kind c.args.start c.args.rules.now rule next some) ∙ (rw (to_z-of_z fits) at c.loop-rule.invariant.1)

pub loop-rule-preserved : goal.loop-rule-preserved
loop-rule-preserved c =
    let fits : FitsSigned w64 c.args.start = search rules in
    let rule = c.rule-item.result in
    let i = c.loop-rule.rule-index in
    let next = next_is c.args.rules.now i rule c.loop-rule-test.true c.rule-item.is in
    let refusal : c.rule_refusal-refusal.result ≡ rule_refusal c.loop-rule.number c.args.kind c.args.start rule =
    rw (to_z-of_z fits) at c.rule_refusal-refusal.ensures in
    let none : is_some (rule_refusal c.loop-rule.number c.args.kind c.args.start rule) ≡ false =
    ap is_some (sym refusal) ∙ sym c.is_some.ensures ∙ c.if-is_some.false in (
      omega (arith, c.loop-rule.invariant.0),
      rw (to_z-of_z fits) (refusal_later c.loop-rule.number i c.args.kind c.args.start c.args.rules.now rule next none
          ∙ (rw (to_z-of_z fits) at c.loop-rule.invariant.1)),
    )
