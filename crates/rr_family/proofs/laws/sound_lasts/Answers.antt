use Rattle.rr_family.proofs.LastingLemmas.{sound_lasts as law}
use Rattle.rr_family.proofs.laws.sound_lasts.Goals as goal

pub returns : goal.returns
returns c = law
