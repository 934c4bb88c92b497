use Rattle.rr_start.proofs.RereadLemmas.{off_is_not_synchronised as law}
use Rattle.rr_start.proofs.laws.off_is_not_synchronised.Goals as goal

pub returns : goal.returns
returns c = law
