use Rattle.rr_plan.proofs.NeededLemmas.{each_part_is_needed as law}
use Rattle.rr_plan.proofs.laws.each_part_is_needed.Goals as goal

pub returns : goal.returns
returns c = law
