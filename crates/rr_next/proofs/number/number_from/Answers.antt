use Rattle.std.proofs.Common.{subst, arith}
use Rattle.std.proofs.lemmas.Int.{ints}
use Rattle.rr_model.specs.Moment.Years.{IsInYears}
use Rattle.rr_model.specs.declared.kind.Kind.TheVariants.{Days}
use Rattle.rr_next.proofs.WindowLemmas.{day_bounds}
use Rattle.rr_next.proofs.number.number_from.Goals as goal

pub overflow_mul-result : goal.overflow_mul-result
overflow_mul-result c =
    let b = day_bounds Days c.args.moment.at (subst (λ k. IsInYears k c.args.moment.at) c.in-Moments-Days.is-1 c.requires) in
    omega (arith, ints, b.0, b.1)

pub returns-in-Moments-Days : goal.returns-in-Moments-Days
returns-in-Moments-Days c =
    let b = day_bounds Days c.args.moment.at (subst (λ k. IsInYears k c.args.moment.at) c.in-Moments-Days.is-1 c.requires) in
    rw (c.in-Moments-Days.is-0, c.in-Moments-Days.is-1) (omega (arith, ints, b.0, b.1))
