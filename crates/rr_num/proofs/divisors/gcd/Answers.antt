use Rattle.std.proofs.Common.{◌≡◌, ◌≤◌, sym, ap, ◌∙◌, subst, arith}
use Rattle.std.specs.Int.{IsGcd}
use Rattle.rr_model.specs.Whole.Divisors.{gcd}
use Rattle.rr_num.proofs.DivisorLemmas.{gcd_is, gcd_some, gcd-mod, gcd-zero}
use Rattle.rr_num.proofs.divisors.gcd.Goals as goal

pub loop-rest-preserved : goal.loop-rest-preserved
loop-rest-preserved c = gcd-mod c.loop-rest.divisor c.loop-rest.rest ∙ c.loop-rest.invariant

pub returns-clause-value : goal.returns-clause-value
returns-clause-value c =
    let over : c.loop-rest.rest ≡ 0 = omega arith in
    sym (gcd-zero c.loop-rest.divisor) ∙ ap (gcd c.loop-rest.divisor) (sym over) ∙ c.loop-rest.invariant

pub returns-clause-greatest : goal.returns-clause-greatest
returns-clause-greatest c = subst (λ g. IsGcd c.args.a c.args.b g) (sym (returns-clause-value c)) (gcd_is c.args.a c.args.b)

pub returns-clause-some : goal.returns-clause-some
returns-clause-some c = subst (λ g. 1 ≤ g) (sym (returns-clause-value c)) (gcd_some c.args.a c.args.b c.requires)
