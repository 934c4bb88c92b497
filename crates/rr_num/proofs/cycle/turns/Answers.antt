use Rattle.rr_num.proofs.DivisionLemmas.{some_parts}
use Rattle.rr_num.proofs.cycle.turns.Goals as goal

pub returns-clause-some : goal.returns-clause-some
returns-clause-some c = some_parts c.args.interval c.gcd.result c.requires c.gcd.ensures.some c.gcd.ensures.greatest.0
