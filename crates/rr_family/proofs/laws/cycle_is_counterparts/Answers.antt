use Rattle.rr_family.proofs.ShiftLemmas.{cycle_is_counterparts as law}
use Rattle.rr_family.proofs.laws.cycle_is_counterparts.Goals as goal

pub returns : goal.returns
returns c = law
