use Rattle.rr_family.proofs.ShiftLemmas.{cycle_is_patterns as law}
use Rattle.rr_family.proofs.laws.cycle_is_patterns.Goals as goal

pub returns : goal.returns
returns c = law
