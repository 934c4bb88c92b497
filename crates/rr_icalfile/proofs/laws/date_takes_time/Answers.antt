use Rattle.rr_icalfile.proofs.TimeTextLemmas.{date_takes_time as law}
use Rattle.rr_icalfile.proofs.laws.date_takes_time.Goals as goal

pub returns : goal.returns
returns c = law
