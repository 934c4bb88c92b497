use Rattle.rr_vcal_laws.proofs.CounterpartProofs.{counterpart_has_members as law}
use Rattle.rr_vcal.proofs.laws.counterpart_has_members.Goals as goal

pub returns : goal.returns
returns c = law
