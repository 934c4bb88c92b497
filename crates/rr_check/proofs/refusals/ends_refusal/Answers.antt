use Rattle.std.proofs.Common.{rules, ◌≡◌, ◌∙◌, true, false, sym, ap, is_some, FitsSigned, w64, to_z-of_z}
use Rattle.rr_model.specs.Series.Soundness.{end_refusal}
use Rattle.rr_check.proofs.RefusalLemmas.{end_is, end_later}
use Rattle.rr_check.proofs.LoopLemmas.{next_is}
use Rattle.rr_check.proofs.refusals.ends_refusal.Goals as goal

pub returns-then-is_some : goal.returns-then-is_some
returns-then-is_some c =
    let fits : FitsSigned w64 c.args.start = search rules in
    let rule = c.rule-item.result in
    let i = c.loop-rule.rule-index in
    let next = next_is c.args.rules.now i rule c.loop-rule-test.true c.rule-item.is in
    let refusal : c.end_refusal-refusal.result ≡ end_refusal c.args.kind c.args.start rule.end = rw (to_z-of_z fits) at c.end_refusal-refusal.ensures in
    let some : is_some (end_refusal c.args.kind c.args.start rule.end) ≡ true = ap is_some (sym refusal) ∙ sym c.is_some.ensures ∙ c.if-is_some.true in
    refusal ∙ sym (end_is i c.args.kind c.args.start c.args.rules.now rule next some) ∙ (rw (to_z-of_z fits) at c.loop-rule.invariant)

pub loop-rule-preserved : goal.loop-rule-preserved
loop-rule-preserved c =
    let fits : FitsSigned w64 c.args.start = search rules in
    let rule = c.rule-item.result in
    let i = c.loop-rule.rule-index in
    let next = next_is c.args.rules.now i rule c.loop-rule-test.true c.rule-item.is in
    let refusal : c.end_refusal-refusal.result ≡ end_refusal c.args.kind c.args.start rule.end = rw (to_z-of_z fits) at c.end_refusal-refusal.ensures in
    let none : is_some (end_refusal c.args.kind c.args.start rule.end) ≡ false = ap is_some (sym refusal) ∙ sym c.is_some.ensures ∙ c.if-is_some.false in
    rw (to_z-of_z fits) (end_later i c.args.kind c.args.start c.args.rules.now rule next none ∙ (rw (to_z-of_z fits) at c.loop-rule.invariant))
