use Rattle.rr_groups.proofs.PairLemmas.{pairs_are_apart as law}
use Rattle.rr_groups.proofs.laws.pairs_are_apart.Goals as goal

pub returns : goal.returns
returns c = law
