use Rattle.rr_plan.proofs.AgreeLemmas.{agreement_is_settled as law}
use Rattle.rr_plan.proofs.laws.agreement_is_settled.Goals as goal

pub returns : goal.returns
returns c = law
