use Rattle.rr_trip.proofs.AlikeLemmas.{empty_has_none as law}
use Rattle.rr_trip.proofs.laws.empty_has_none.Goals as goal

pub returns : goal.returns
returns c = law
