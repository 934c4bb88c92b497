use Rattle.rr_family.proofs.FirstLemmas.{first_rule_is_one as law}
use Rattle.rr_family.proofs.laws.first_rule_is_one.Goals as goal

pub returns : goal.returns
returns c = law
