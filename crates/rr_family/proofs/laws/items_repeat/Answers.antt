use Rattle.rr_family.proofs.ShiftLemmas.{items_repeat as law}
use Rattle.rr_family.proofs.laws.items_repeat.Goals as goal

pub returns : goal.returns
returns c = law
