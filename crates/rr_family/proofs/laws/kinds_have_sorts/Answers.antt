use Rattle.rr_family.proofs.SortLemmas.{kinds_have_sorts as law}
use Rattle.rr_family.proofs.laws.kinds_have_sorts.Goals as goal

pub returns : goal.returns
returns c = law
