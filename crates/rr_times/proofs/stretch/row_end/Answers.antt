use Rattle.std.proofs.Common.{◌≡◌, ◌+◌, get_or, arith}
use Rattle.rr_model.proofs.RisingSetLemmas.{rising_at}
use Rattle.rr_times.proofs.ItemLemmas.{row_goes_on}
use Rattle.rr_times.proofs.stretch.row_end.Goals as goal

pub overflow_sub-seconds : goal.overflow_sub-seconds
overflow_sub-seconds c =
    let l = rising_at c.args.seconds.now c.requires.of_day.rises c.loop-last.last (c.loop-last.last + 1) (omega arith) c.loop-last-test.true in
    omega (arith, l)

pub loop-last-preserved : goal.loop-last-preserved
loop-last-preserved c =
    let xs = c.args.seconds.now in
    let k = c.loop-last.last in
    let l = rising_at xs c.requires.of_day.rises k (k + 1) (omega arith) c.loop-last-test.true in
    let e : get_or xs (k + 1) 0 ≡ get_or xs k 0 + c.args.step = omega (arith, l, c.if-seconds-last.false) in
    let row = row_goes_on xs k c.args.step c.loop-last-test.true e in
    (omega (arith, row, c.loop-last.invariant.0), omega (arith, c.loop-last.invariant.1), omega (arith, c.loop-last-test.true))
