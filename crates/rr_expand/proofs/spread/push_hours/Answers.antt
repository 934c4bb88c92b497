use Rattle.std.proofs.Common.{◌*◌, get_or, refl}
use Rattle.rr_expand.specs.Spread.{of_hour, of_day}
use Rattle.rr_expand.proofs.SpreadLemmas.{more, all}
use Rattle.rr_expand.proofs.spread.push_hours.Goals as goal

pub loop-hour-preserved : goal.loop-hour-preserved
unfolding of_day
loop-hour-preserved c =
    let xs = c.args.hours.now in
    let i = c.loop-hour.hour-index in
    more (λ xs. of_day xs c.args.minutes.now c.args.seconds.now)
    (of_hour (3_600 * get_or xs i 0) c.args.minutes.now c.args.seconds.now) c.loop-hour.out.items _ _ xs i 0 c.loop-hour-test.true refl
    c.in_ok-push_hour.ensures c.loop-hour.invariant

pub returns : goal.returns
unfolding of_day
returns c = all (λ xs. of_day xs c.args.minutes.now c.args.seconds.now) c.loop-hour.out.items _ c.args.hours.now c.loop-hour.hour-index
    c.loop-hour-test.false refl c.loop-hour.invariant
