use Rattle.std.proofs.Common.{inr, subst}
use Rattle.rr_family.specs.Divisors.{IsLeftOut, divisor_of}
use Rattle.rr_graphfind.proofs.refusal.is_passed_over.Goals as goal

pub returns : goal.returns
returns c = λ out.
    let p = c.args.pattern.now in
    inr (subst (λ freq. IsLeftOut c.args.window.now.end (divisor_of c.args.divisors.now freq p.first_day) p.interval) c.form_freq.ensures
    (c.leave_out.ensures out))
