use Rattle.std.proofs.Common.{◌+◌, ◌*◌, get_or, refl}
use Rattle.rr_expand.specs.Spread.{of_minute, of_hour}
use Rattle.rr_expand.proofs.SpreadLemmas.{more, all}
use Rattle.rr_expand.proofs.spread.push_hour.Goals as goal

pub loop-minute-preserved : goal.loop-minute-preserved
unfolding of_hour
loop-minute-preserved c =
    let xs = c.args.minutes.now in
    let i = c.loop-minute.minute-index in
    more (λ xs. of_hour c.args.base xs c.args.seconds.now)
    (of_minute (c.args.base + 60 * get_or xs i 0) c.args.seconds.now) c.loop-minute.out.items _ _ xs i 0 c.loop-minute-test.true refl
    c.in_ok-push_minute.ensures c.loop-minute.invariant

pub returns : goal.returns
unfolding of_hour
returns c = all (λ xs. of_hour c.args.base xs c.args.seconds.now) c.loop-minute.out.items _ c.args.minutes.now c.loop-minute.minute-index
    c.loop-minute-test.false refl c.loop-minute.invariant
