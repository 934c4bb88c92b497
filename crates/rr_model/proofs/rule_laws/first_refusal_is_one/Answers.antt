use Rattle.rr_model.proofs.FirstRefusalLemmas.{first_refusal_is_one as law}
use Rattle.rr_model.proofs.rule_laws.first_refusal_is_one.Goals as goal

pub returns : goal.returns
returns c = law
