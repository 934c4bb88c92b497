use Rattle.std.proofs.Common.{ap, sym, subst, ◌∙◌, rules}
use Rattle.std.proofs.lemmas.Result.{IfOk-weaker}
use Rattle.rr_groups.specs.Groups.{AreGroups}
use Rattle.rr_groups.specs.Pairs.{ArePairs, pairs_in}
use Rattle.rr_groups.proofs.PairLemmas.{are_pairs}
use Rattle.rr_groups.proofs.pairs.pairs_of.Goals as goal

pub returns : goal.returns
returns c =
    let a = c.args.a.now in
    let b = c.args.b.now in
    let is_only = c.args.is_only in
    let groups = c.in_ok-groups.groups.items in
    let are : AreGroups a b groups = search rules in
    IfOk-weaker c.pairs_of_groups.result _ _
    (λ pairs made. subst (ArePairs is_only a b) (sym (made ∙ ap (pairs_in is_only) c.deref.ensures.value)) (are_pairs is_only a b groups are))
    c.pairs_of_groups.ensures
