use Rattle.rr_lenient.proofs.LenientLawProofs.{lenient_occurs as law}
use Rattle.rr_lenient.proofs.lenient_laws.lenient_occurs.Goals as goal

pub returns : goal.returns
returns c = law c.reread_occurs.ensures
