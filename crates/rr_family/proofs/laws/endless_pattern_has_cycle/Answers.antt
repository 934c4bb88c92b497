use Rattle.rr_family.proofs.GraphProfileLemmas.{endless_pattern_has_cycle as law}
use Rattle.rr_family.proofs.laws.endless_pattern_has_cycle.Goals as goal

pub returns : goal.returns
returns c = law
