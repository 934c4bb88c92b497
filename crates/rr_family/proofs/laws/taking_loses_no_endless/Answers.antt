use Rattle.rr_family.proofs.LastingLemmas.{taking_loses_no_endless as law}
use Rattle.rr_family.proofs.laws.taking_loses_no_endless.Goals as goal

pub returns : goal.returns
returns c = law
