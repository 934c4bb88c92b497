use Rattle.rr_iter.proofs.RulesLemmas.{whole_one_kind}
use Rattle.rr_iter.proofs.any_lazy.whole_lazy.Goals as goal

pub new-requires-2-clause-one_kind : goal.new-requires-2-clause-one_kind
new-requires-2-clause-one_kind c = whole_one_kind c.args.series.now _ _ c.requires.sound c.in_ok-kept.ensures.tree c.in_ok-minus.ensures

pub returns-clause-knows : goal.returns-clause-knows
returns-clause-knows c sets = c.new-2.ensures.knows sets (c.in_ok-kept.ensures.knows sets)
