use Rattle.rr_family.proofs.TakingLemmas.{taking_is_sound as law}
use Rattle.rr_family.proofs.laws.taking_is_sound.Goals as goal

pub returns : goal.returns
returns c = law
