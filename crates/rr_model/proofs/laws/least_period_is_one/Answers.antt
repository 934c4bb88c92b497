use Rattle.std.proofs.Common.{arith}
use Rattle.rr_model.proofs.laws.least_period_is_one.Goals as goal

pub returns : goal.returns
returns c f p r a b = omega (arith, a.least r b.holds, b.least p a.holds)
