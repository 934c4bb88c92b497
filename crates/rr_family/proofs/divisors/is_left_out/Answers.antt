use Rattle.std.proofs.Common.{inl}
use Rattle.rr_family.proofs.DivisorLemmas.{not_divided}
use Rattle.rr_family.proofs.divisors.is_left_out.Goals as goal

pub returns : goal.returns
returns c = λ rest. inl (not_divided c.args.divisor c.args.interval c.from.result c.from.ensures rest)
