use Rattle.rr_answer.proofs.SaidOfBothLemmas.{differences_begin_as_equal as law}
use Rattle.rr_answer.proofs.laws.differences_begin_as_equal.Goals as goal

pub returns : goal.returns
returns c = law
