use Rattle.rr_num.proofs.DivisorLemmas.{gcd_is}
use Rattle.rr_num.proofs.divisors.gcd_is_greatest.Goals as goal

pub returns : goal.returns
returns c = gcd_is
