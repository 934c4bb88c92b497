use Rattle.std.proofs.Common.{arith}
use Rattle.rr_decide.proofs.AlikeLemmas.{equal_more, most_more}
use Rattle.rr_decide.proofs.QuietLemmas.{equal_below}
use Rattle.rr_decide.proofs.quiet.are_equal_below.Goals as goal

pub loop-index-init : goal.loop-index-init
loop-index-init c = ((λ t k low high. absurd (omega arith)), λ k low high. absurd (omega arith))

pub loop-index-preserved : goal.loop-index-preserved
loop-index-preserved c = (
  equal_more c.args.xs.now c.args.ys.now c.args.from c.loop-index.index c.loop-index.equal c.loop-index.invariant.0,
  most_more c.args.xs.now c.args.from c.loop-index.index c.loop-index.greatest c.max-greatest.result c.max-greatest.ensures c.loop-index.invariant.1,
)

pub returns-then-equal : goal.returns-then-equal
returns-then-equal c = λ t k low high.
    equal_below c.args.xs.now c.args.ys.now c.args.from c.loop-index.index c.loop-index.greatest c.args.below
    (c.loop-index.invariant.0 c.if-equal.true) c.loop-index.invariant.1 t k low (omega (arith, high))
