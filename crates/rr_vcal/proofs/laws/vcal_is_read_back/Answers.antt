use Rattle.rr_vcal.proofs.ReadBackProofs.{vcal_read_back}
use Rattle.rr_vcal.proofs.laws.vcal_is_read_back.Goals as goal

pub returns : goal.returns
returns c = vcal_read_back
