use Rattle.std.proofs.Common.{subst}
use Rattle.rr_family.specs.Divisors.{IsLeftOut}
use Rattle.rr_family.proofs.divisors.Divisors.leave_out.Goals as goal

pub returns : goal.returns
returns c = λ t. subst (λ divisor. IsLeftOut c.args.end divisor c.args.interval) c.of_unit.ensures (c.is_left_out.ensures t)
