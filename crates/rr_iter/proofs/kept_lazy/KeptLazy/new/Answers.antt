use Rattle.std.proofs.Common.{rules, ◌∙◌, w64, to_z-of_z, FitsSigned}
use Rattle.rr_iter.proofs.RulesLemmas.{kept_one_kind, same_except}
use Rattle.rr_iter.proofs.kept_lazy.KeptLazy.new.Goals as goal

pub new-requires-3-clause-one_kind : goal.new-requires-3-clause-one_kind
new-requires-3-clause-one_kind c =
    let series = c.args.series.now in
    let fits : FitsSigned w64 series.start = search rules in
    kept_one_kind series _ _ c.requires.sound c.in_ok-all.ensures.tree (rw (to_z-of_z fits, c.as_slice.ensures) at c.in_ok-excluded.ensures.tree)

pub returns-clause-knows : goal.returns-clause-knows
returns-clause-knows c sets = c.new-3.ensures.knows sets (c.in_ok-all.ensures.knows sets) (c.in_ok-excluded.ensures.knows sets)

pub returns-clause-tree : goal.returns-clause-tree
returns-clause-tree c =
    let series = c.args.series.now in
    let fits : FitsSigned w64 series.start = search rules in
    let excluded = rw (to_z-of_z fits, c.as_slice.ensures) at c.in_ok-excluded.ensures.tree in
    c.new-3.ensures.tree ∙ same_except _ _ _ _ c.in_ok-all.ensures.tree excluded
