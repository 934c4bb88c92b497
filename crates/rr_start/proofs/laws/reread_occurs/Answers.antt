use Rattle.rr_start.proofs.RereadLemmas.{reread_occurs as law}
use Rattle.rr_start.proofs.laws.reread_occurs.Goals as goal

pub returns : goal.returns
returns c = law
