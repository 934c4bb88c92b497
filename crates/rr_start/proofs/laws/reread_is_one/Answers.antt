use Rattle.rr_start.proofs.RereadLemmas.{reread_is_one as law}
use Rattle.rr_start.proofs.laws.reread_is_one.Goals as goal

pub returns : goal.returns
returns c = law
