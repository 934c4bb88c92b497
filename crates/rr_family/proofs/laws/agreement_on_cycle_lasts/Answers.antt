use Rattle.rr_family.proofs.LastingLemmas.{agreement_on_cycle_lasts as law}
use Rattle.rr_family.proofs.laws.agreement_on_cycle_lasts.Goals as goal

pub returns : goal.returns
returns c = law
