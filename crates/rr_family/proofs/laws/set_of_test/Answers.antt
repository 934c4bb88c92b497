use Rattle.rr_family.proofs.DaySetLemmas.{set_of_test as law}
use Rattle.rr_family.proofs.laws.set_of_test.Goals as goal

pub returns : goal.returns
returns c = law
