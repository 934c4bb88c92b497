use Rattle.rr_zone.proofs.StayLemmas.{other_rules_stay as law}
use Rattle.rr_zone.proofs.text_laws.other_rules_stay.Goals as goal

pub returns : goal.returns
returns c = law
