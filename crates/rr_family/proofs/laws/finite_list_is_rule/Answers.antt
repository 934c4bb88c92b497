use Rattle.rr_family.proofs.ProfileLemmas.{finite_list_is_rule as law}
use Rattle.rr_family.proofs.laws.finite_list_is_rule.Goals as goal

pub returns : goal.returns
returns c = law
