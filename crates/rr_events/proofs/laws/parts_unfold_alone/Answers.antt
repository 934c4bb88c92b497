use Rattle.rr_events.proofs.CuttingLemmas.{parts_unfold_alone as law}
use Rattle.rr_events.proofs.laws.parts_unfold_alone.Goals as goal

pub returns : goal.returns
returns c = law
