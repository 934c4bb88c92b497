use Rattle.rr_trip.proofs.AlikeLemmas.{alike_is_exact as law}
use Rattle.rr_trip.proofs.laws.alike_is_exact.Goals as goal

pub returns : goal.returns
returns c = law c.first_refusal_is_one.ensures
