use Rattle.rr_family.proofs.TallyLemmas.{further_by_sorts as law}
use Rattle.rr_family.proofs.laws.further_by_sorts.Goals as goal

pub returns : goal.returns
returns c = law
