use Rattle.rr_icalfile.proofs.OccursLemmas.{events_occur as law}
use Rattle.rr_icalfile.proofs.laws.events_occur.Goals as goal

pub returns : goal.returns
returns c = law
