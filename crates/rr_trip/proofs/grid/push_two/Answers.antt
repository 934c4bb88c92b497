use Rattle.std.proofs.Common.{arith}
use Rattle.rr_trip.proofs.GridLemmas.{decimal_two}
use Rattle.rr_trip.proofs.grid.push_two.Goals as goal

pub returns : goal.returns
returns c =
    rw (decimal_two c.args.value c.if-value-lt100.false (omega (arith, c.ranges.value.fits)))
    (rw c.from.ensures at c.in_ok-push_unsigned.ensures.ok)
