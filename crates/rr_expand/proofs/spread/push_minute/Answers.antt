use Rattle.std.proofs.Common.{◌+◌, [], ◌∷◌, get_or, refl}
use Rattle.rr_expand.specs.Spread.{of_minute}
use Rattle.rr_expand.proofs.SpreadLemmas.{more, all}
use Rattle.rr_expand.proofs.spread.push_minute.Goals as goal

pub loop-second-preserved : goal.loop-second-preserved
unfolding of_minute
loop-second-preserved c =
    let xs = c.args.seconds.now in
    let i = c.loop-second.second-index in
    more (of_minute c.args.base)
    ((c.args.base + get_or xs i 0) ∷ []) c.loop-second.out.items _ _ xs i 0 c.loop-second-test.true refl c.in_ok-push.ensures.items c.loop-second.invariant

pub returns : goal.returns
unfolding of_minute
returns c = all (of_minute c.args.base) c.loop-second.out.items _ c.args.seconds.now c.loop-second.second-index c.loop-second-test.false refl
    c.loop-second.invariant
