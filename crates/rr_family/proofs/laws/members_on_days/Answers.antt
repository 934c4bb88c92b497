use Rattle.rr_family.proofs.ProfileLemmas.{members_on_days as law}
use Rattle.rr_family.proofs.laws.members_on_days.Goals as goal

pub returns : goal.returns
returns c = law
