use Rattle.rr_vcal_laws.proofs.CounterpartProofs.{counterpart_is_synchronised as law}
use Rattle.rr_vcal.proofs.laws.counterpart_is_synchronised.Goals as goal

pub returns : goal.returns
returns c = law
