use Rattle.rr_family.proofs.GraphProfileLemmas.{endless_agreement_is_pattern as law}
use Rattle.rr_family.proofs.laws.endless_agreement_is_pattern.Goals as goal

pub returns : goal.returns
returns c = law
