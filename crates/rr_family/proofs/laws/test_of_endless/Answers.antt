use Rattle.rr_family.proofs.DaySetLemmas.{test_of_endless as law}
use Rattle.rr_family.proofs.laws.test_of_endless.Goals as goal

pub returns : goal.returns
returns c = law
