use Rattle.rr_length.proofs.OneLemmas.{first_other_is_one as law}
use Rattle.rr_length.proofs.laws.first_other_is_one.Goals as goal

pub returns : goal.returns
returns c = law
