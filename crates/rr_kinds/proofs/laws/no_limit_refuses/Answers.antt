use Rattle.rr_kinds.proofs.LimitLemmas.{no_limit_refuses as law}
use Rattle.rr_kinds.proofs.laws.no_limit_refuses.Goals as goal

pub returns : goal.returns
returns c = law
