use Rattle.std.proofs.Common.{ap, ◌∙◌, to_z-of_z}
use Rattle.std.specs.Prelude.{All}
use Rattle.std.proofs.lemmas.List.{take_all}
use Rattle.rr_model.specs.Sets.Tree.{many, IsOfKind}
use Rattle.rr_model.specs.Series.Tree.{members_of, members_of_all}
use Rattle.rr_iter.proofs.RulesLemmas.{members_of_kind, joined_next, joined_kind}
use Rattle.rr_iter.proofs.rules_of_series.RulesOfSeries.new.Goals as goal

pub put-requires-clause-one_kind : goal.put-requires-clause-one_kind
put-requires-clause-one_kind c =
    let rule_list = c.args.rules.now in
    let kind = c.args.kind in
    let start = c.args.start in
    let members = rw (to_z-of_z c.ranges.start) at c.in_ok-members.ensures.tree in
    let all : All (λ rule. IsOfKind kind (members_of kind start rule)) rule_list =
    members_of_kind kind start rule_list c.requires.sound in
    joined_kind kind start rule_list c.loop-rule.rule-index c.rule-item.result _ _ c.loop-rule-test.true c.rule-item.is
    (rw (to_z-of_z c.ranges.start) at c.loop-rule.invariant.0) members all

pub put-requires-clause-unasked : goal.put-requires-clause-unasked
put-requires-clause-unasked c = c.loop-rule.invariant.1

pub loop-rule-preserved : goal.loop-rule-preserved
loop-rule-preserved c =
    let rule_list = c.args.rules.now in
    let kind = c.args.kind in
    let start = c.args.start in
    let members = rw (to_z-of_z c.ranges.start) at c.in_ok-members.ensures.tree in
    let next = joined_next kind start rule_list c.loop-rule.rule-index c.rule-item.result _ _ c.loop-rule-test.true c.rule-item.is
    (rw (to_z-of_z c.ranges.start) at c.loop-rule.invariant.0) members in (
      rw (to_z-of_z c.ranges.start) (c.in_ok-put.ensures.tree ∙ next),
      c.in_ok-put.ensures.unasked,
      (λ sets. c.in_ok-put.ensures.knows sets (c.loop-rule.invariant.2 sets) (c.in_ok-members.ensures.knows sets)),
    )

pub returns-clause-tree : goal.returns-clause-tree
returns-clause-tree c =
    let whole = take_all c.loop-rule.rule-index c.args.rules.now c.loop-rule-test.false in
    (rw (to_z-of_z c.ranges.start) at c.loop-rule.invariant.0) ∙ ap (λ r. many (members_of_all c.args.kind c.args.start r)) whole
