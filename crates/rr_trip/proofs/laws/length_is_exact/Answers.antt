use Rattle.rr_trip.proofs.LengthLemmas.{length_is_exact as law}
use Rattle.rr_trip.proofs.laws.length_is_exact.Goals as goal

pub returns : goal.returns
returns c = law
