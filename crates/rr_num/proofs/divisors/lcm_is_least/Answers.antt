use Rattle.rr_num.proofs.DivisorLemmas.{lcm_is}
use Rattle.rr_num.proofs.divisors.lcm_is_least.Goals as goal

pub returns : goal.returns
returns c = lcm_is
