use Rattle.rr_moved.proofs.OccursLemmas.{starts_occur as law}
use Rattle.rr_moved.proofs.laws.starts_occur.Goals as goal

pub returns : goal.returns
returns c = law
