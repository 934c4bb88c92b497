use Rattle.rr_lenient.proofs.EndLawProofs.{other_ends_change as law}
use Rattle.rr_lenient.proofs.end_laws.other_ends_change.Goals as goal

pub returns : goal.returns
returns c = law
