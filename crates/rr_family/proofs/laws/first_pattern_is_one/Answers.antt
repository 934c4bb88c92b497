use Rattle.rr_family.proofs.FirstLemmas.{first_pattern_is_one as law}
use Rattle.rr_family.proofs.laws.first_pattern_is_one.Goals as goal

pub returns : goal.returns
returns c = law
