use Rattle.std.proofs.Common.{arith, ap, ◌∙◌, ◌≡◌, suc, ◌+◌, ◌++◌, ◌∷◌, [], take, get_or, to_z-of_z}
use Rattle.rr_model.specs.Vcal.Counterpart.{rules_of_vrules, rule_of_vrule}
use Rattle.rr_vcal.proofs.OccurrenceLemmas.{one_rule_more}
use Rattle.rr_vcal.proofs.series.rules_of.Goals as goal

pub loop-rule-preserved : goal.loop-rule-preserved
loop-rule-preserved c =
    let kind = c.args.kind in
    let start = to_z-of_z c.ranges.start in
    let rules = c.args.rules.now in
    let i = c.loop-rule.rule-index in
    let made = c.in_ok-to_rule.ensures.value ∙ ap (rule_of_vrule c.rule-item.result kind) start ∙ ap (λ r. rule_of_vrule r kind c.args.start) c.rule-item.is in
    let next : suc i ≡ i + 1 = omega arith in
    rw start
    (c.in_ok-put.ensures.ok ∙ ap (λ l. c.loop-rule.made ++ l ∷ []) made
    ∙ ap (λ l. l ++ rule_of_vrule (get_or rules i c.rule-item.result) kind c.args.start ∷ []) (rw start at c.loop-rule.invariant)
    ∙ one_rule_more kind c.args.start rules i c.rule-item.result c.loop-rule-test.true
    ∙ ap (λ k. rules_of_vrules kind c.args.start (take k rules)) next)
