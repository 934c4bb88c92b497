use Rattle.std.proofs.Common.{arith}
use Rattle.std.proofs.lemmas.Int.{ints}
use Rattle.rr_lazy.proofs.position.position_after.Goals as goal

pub overflow_add-result : goal.overflow_add-result
overflow_add-result c =
    let w = c.requires.within c.in-Some.given c.in-Some.is in
    omega (arith, ints, w.0, w.1, c.requires.low, c.requires.high)

pub returns-in-Some : goal.returns-in-Some
returns-in-Some c =
    let w = c.requires.within c.in-Some.given c.in-Some.is in
    rw c.in-Some.is (omega (arith, ints, w.0, w.1, c.requires.low, c.requires.high))
