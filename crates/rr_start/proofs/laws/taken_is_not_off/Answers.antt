use Rattle.rr_start.proofs.RereadLemmas.{taken_is_not_off as law}
use Rattle.rr_start.proofs.laws.taken_is_not_off.Goals as goal

pub returns : goal.returns
returns c = law
