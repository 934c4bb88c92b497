use Rattle.rr_icalfile.proofs.OneTimeLemmas.{day_has_one_time as law}
use Rattle.rr_icalfile.proofs.laws.day_has_one_time.Goals as goal

pub returns : goal.returns
returns c = law
