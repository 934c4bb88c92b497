use Rattle.rr_family.proofs.ProfileLemmas.{endless_list_is_rule as law}
use Rattle.rr_family.proofs.laws.endless_list_is_rule.Goals as goal

pub returns : goal.returns
returns c = law
