use Rattle.std.proofs.lemmas.Nat.Gcd.{IsGcd-from_zero}
use Rattle.rr_family.proofs.divisors.common_divisor.Goals as goal

pub returns-then-b-eq0 : goal.returns-then-b-eq0
returns-then-b-eq0 c = IsGcd-from_zero c.args.a c.args.b c.if-b-eq0.true

pub returns-else-b-eq0 : goal.returns-else-b-eq0
returns-else-b-eq0 c = c.gcd.ensures.greatest
