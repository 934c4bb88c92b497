use Rattle.rr_answer.proofs.OwnSenseLemmas.{own_sense as law}
use Rattle.rr_answer.proofs.laws.own_sense.Goals as goal

pub returns : goal.returns
returns c = law
