use Rattle.rr_rrule.proofs.FoldedLemmas.{folding_does_not_matter as law}
use Rattle.rr_rrule.proofs.laws.folding_does_not_matter.Goals as goal

pub returns : goal.returns
returns c = law
