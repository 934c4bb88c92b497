use Rattle.rr_family.proofs.GraphProfileLemmas.{pattern_has_one_second as law}
use Rattle.rr_family.proofs.laws.pattern_has_one_second.Goals as goal

pub returns : goal.returns
returns c = law
