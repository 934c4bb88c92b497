use Rattle.rr_lenient.proofs.LenientLawProofs.{lenient_is_one as law}
use Rattle.rr_lenient.proofs.lenient_laws.lenient_is_one.Goals as goal

pub returns : goal.returns
returns c = law c.reread_is_one.ensures
