use Rattle.rr_family.proofs.GraphProfileLemmas.{no_pattern_is_lost as law}
use Rattle.rr_family.proofs.laws.no_pattern_is_lost.Goals as goal

pub returns : goal.returns
returns c = law
