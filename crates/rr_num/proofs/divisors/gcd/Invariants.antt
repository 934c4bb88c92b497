use Rattle.std.proofs.Common.{◌≡◌}
use Rattle.rr_model.specs.Whole.Divisors.{gcd}
use Rattle.rr_num.proofs.divisors.gcd.Given as goal

abbrev pub invariant-loop-rest : goal.invariant-loop-rest
invariant-loop-rest l = gcd l.divisor l.rest ≡ gcd l.fn.a l.fn.b

abbrev pub decreases-loop-rest : goal.decreases-loop-rest
decreases-loop-rest l = l.rest
