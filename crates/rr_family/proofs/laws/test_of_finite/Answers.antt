use Rattle.rr_family.proofs.DaySetLemmas.{test_of_finite as law}
use Rattle.rr_family.proofs.laws.test_of_finite.Goals as goal

pub returns : goal.returns
returns c = law
