use Rattle.rr_iter.proofs.SeriesTreeLemmas.{tree_stands_for_series as law}
use Rattle.rr_iter.proofs.laws.tree_stands_for_series.Goals as goal

pub returns : goal.returns
returns c = law
