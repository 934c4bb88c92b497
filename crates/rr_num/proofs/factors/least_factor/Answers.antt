use Rattle.std.proofs.Common.{◌*◌, ◌≤◌, arith}
use Rattle.std.proofs.Math.Nat.{mul-le-mul_left}
use Rattle.rr_num.proofs.FactorLemmas.{own_factor, none_below_next}
use Rattle.rr_num.proofs.factors.least_factor.Goals as goal

pub loop-factor-preserved : goal.loop-factor-preserved
loop-factor-preserved c =
    let factor = c.loop-factor.factor in
    let known = c.loop-factor.invariant in
    let twice : factor * 2 ≤ factor * factor = mul-le-mul_left factor known.0 in (
      omega (arith, known.0),
      omega (arith, twice, c.loop-factor-test.true, c.requires.few),
      none_below_next c.args.number factor (omega (arith, known.0)) known.2 c.if-number-factor-eq0.false,
    )

pub returns : goal.returns
returns c = own_factor c.args.number c.loop-factor.factor c.requires.some c.loop-factor.invariant.2 c.loop-factor-test.false
