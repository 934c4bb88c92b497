use Rattle.std.proofs.Common.{arith}
use Rattle.std.proofs.lemmas.Int.{ints, clamps}
use Rattle.rr_differ.proofs.one_kind.first_day.Goals as goal

pub returns-in-Some-Some-clause-some : goal.returns-in-Some-Some-clause-some
returns-in-Some-Some-clause-some g c = (
  (λ d l. c.in-Some-Some.ensures.first.1 d (omega (arith, ints, clamps, l))),
  (λ d l. c.in-Some-Some.ensures'.first.1 d (omega (arith, ints, clamps, l))),
)

pub returns-in-Some-Some-clause-near : goal.returns-in-Some-Some-clause-near
returns-in-Some-Some-clause-near g c =
    let one = c.in-Some-Some.ensures.near in
    let other = c.in-Some-Some.ensures'.near in
    (omega (arith, ints, clamps, one.0, other.0), omega (arith, ints, clamps, one.1, other.1))
