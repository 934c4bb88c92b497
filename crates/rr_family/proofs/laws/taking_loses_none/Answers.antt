use Rattle.rr_family.proofs.TakingLemmas.{taking_loses_none as law}
use Rattle.rr_family.proofs.laws.taking_loses_none.Goals as goal

pub returns : goal.returns
returns c = law
