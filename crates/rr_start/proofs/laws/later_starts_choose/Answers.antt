use Rattle.rr_start.proofs.LaterLemmas.{later_starts as law}
use Rattle.rr_start.proofs.laws.later_starts_choose.Goals as goal

pub returns : goal.returns
returns c = law
