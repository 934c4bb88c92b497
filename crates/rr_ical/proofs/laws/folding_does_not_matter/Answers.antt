use Rattle.rr_ical.proofs.FoldingLemmas.{folding_does_not_matter as law}
use Rattle.rr_ical.proofs.laws.folding_does_not_matter.Goals as goal

pub returns : goal.returns
returns c = law
