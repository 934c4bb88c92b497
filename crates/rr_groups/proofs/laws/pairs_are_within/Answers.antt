use Rattle.rr_groups.proofs.PairLemmas.{pairs_are_within as law}
use Rattle.rr_groups.proofs.laws.pairs_are_within.Goals as goal

pub returns : goal.returns
returns c = law
