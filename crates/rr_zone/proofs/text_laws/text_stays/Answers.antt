use Rattle.rr_zone.proofs.StayLemmas.{text_stays as law}
use Rattle.rr_zone.proofs.text_laws.text_stays.Goals as goal

pub returns : goal.returns
returns c = law
