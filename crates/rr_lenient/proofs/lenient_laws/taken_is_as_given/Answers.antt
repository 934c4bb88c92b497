use Rattle.rr_lenient.proofs.LenientLawProofs.{taken_is_as_given as law}
use Rattle.rr_lenient.proofs.lenient_laws.taken_is_as_given.Goals as goal

pub returns : goal.returns
returns c = law c.taken_is_not_off.ensures
