use Rattle.rr_family.proofs.ProfileLemmas.{no_list_is_lost as law}
use Rattle.rr_family.proofs.laws.no_list_is_lost.Goals as goal

pub returns : goal.returns
returns c = law
