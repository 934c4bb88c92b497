use Rattle.rr_lenient.proofs.EndLawProofs.{until_kind_is_other_end as law}
use Rattle.rr_lenient.proofs.end_laws.until_kind_is_other_end.Goals as goal

pub returns : goal.returns
returns c = law
