use Rattle.rr_model.proofs.MemberLemmas.{members_are_tested as law}
use Rattle.rr_model.proofs.rule_laws.members_are_tested.Goals as goal

pub returns : goal.returns
returns c = law
