use Rattle.rr_family.proofs.ShiftLemmas.{pattern_repeats as law}
use Rattle.rr_family.proofs.laws.pattern_repeats.Goals as goal

pub returns : goal.returns
returns c = law
