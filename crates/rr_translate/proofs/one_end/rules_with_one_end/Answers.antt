use Rattle.std.proofs.Common.{◌≡◌, ℕ, suc, ◌+◌, ◌++◌, ◌∷◌, [], take, map, get_or, to_z-of_z, ap, sym, ◌∙◌, arith}
use Rattle.std.proofs.Math.Seq.{take-suc}
use Rattle.std.proofs.lemmas.List.{map-append}
use Rattle.rr_translate.specs.OneEnd.{with_one_end}
use Rattle.rr_translate.proofs.one_end.rules_with_one_end.Goals as goal

pub loop-rule-preserved : goal.loop-rule-preserved
loop-rule-preserved c =
    let f = with_one_end c.args.kind c.args.start in
    let start = to_z-of_z c.ranges.start in
    let rules = c.args.rules.now in
    let i : ℕ = c.loop-rule.rule-index in
    let made = c.in_ok-with_one_end.ensures ∙ ap (λ z. with_one_end c.args.kind z c.rule-item.result) start in
    let before = c.loop-rule.invariant ∙ ap (λ z. map (with_one_end c.args.kind z) (take i rules)) start in
    let next : suc i ≡ i + 1 = omega arith in
    let longer = take-suc rules i c.rule-item.result c.loop-rule-test.true in
    rw start
    (c.in_ok-put.ensures.ok ∙ ap (λ x. c.loop-rule.made ++ x ∷ []) (made ∙ ap f c.rule-item.is)
    ∙ ap (λ l. l ++ f (get_or rules i c.rule-item.result) ∷ []) before ∙ sym (map-append f (take i rules) (get_or rules i c.rule-item.result ∷ []))
    ∙ ap (map f) (sym longer ∙ ap (λ k. take k rules) next))
