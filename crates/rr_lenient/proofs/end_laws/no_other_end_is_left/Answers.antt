use Rattle.rr_lenient.proofs.EndLawProofs.{no_other_end_is_left as law}
use Rattle.rr_lenient.proofs.end_laws.no_other_end_is_left.Goals as goal

pub returns : goal.returns
returns c = law
