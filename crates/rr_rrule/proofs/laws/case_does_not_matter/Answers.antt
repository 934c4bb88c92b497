use Rattle.rr_rrule.proofs.CaseLemmas.{case_does_not_matter as law}
use Rattle.rr_rrule.proofs.laws.case_does_not_matter.Goals as goal

pub returns : goal.returns
returns c = law
