use Rattle.std.proofs.Common.{rules, ◌≡◌, true, w64, to_z-of_z, FitsSigned, ap, sym, subst, ◌∙◌}
use Rattle.rr_model.specs.Series.Tree.{members_of}
use Rattle.rr_model.specs.Sets.Tree.{IsOfOneKind, stands_in}
use Rattle.rr_iter.specs.Alone.{tree_alone}
use Rattle.rr_iter.specs.Ended.{tree_of_ended}
use Rattle.rr_iter.proofs.AloneLemmas.{has_start, of_one_kind}
use Rattle.rr_iter.proofs.alone_lazy.AloneLazy.new.Goals as goal

pub invariant_of-result : goal.invariant_of-result
invariant_of-result c =
    let series = c.args.series.now in
    let alone = c.requires.alone in
    let kind = series.kind in
    let fits : FitsSigned w64 series.start = search rules in
    let start = to_z-of_z fits in
    let made = tree_of_ended c.in_ok-members.members in
    let of_rule = c.in_ok-members.ensures.tree ∙ ap (members_of kind _) c.index-as_slice-0.is in
    let is : made ≡ members_of kind series.start alone.rule = rw (start, c.as_slice.ensures, alone.rules) at of_rule in
    record {
      one_kind = subst (λ x. IsOfOneKind (tree_alone kind x made)) (sym start)
          (subst (λ t. IsOfOneKind (tree_alone kind series.start t)) (sym is) (of_one_kind series c.requires.sound alone));
      has_start = subst (λ x. stands_in made kind x ≡ true) (sym start)
          (subst (λ t. stands_in t kind series.start ≡ true) (sym is) (has_start series c.requires.sound alone));
    }
