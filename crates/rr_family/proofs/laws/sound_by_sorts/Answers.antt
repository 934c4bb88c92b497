use Rattle.rr_family.proofs.TallyLemmas.{sound_by_sorts as law}
use Rattle.rr_family.proofs.laws.sound_by_sorts.Goals as goal

pub returns : goal.returns
returns c = law
