use Rattle.rr_family.proofs.LastingLemmas.{endless_has_cycle as law}
use Rattle.rr_family.proofs.laws.endless_has_cycle.Goals as goal

pub returns : goal.returns
returns c = law
