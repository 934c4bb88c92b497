use Rattle.std.proofs.Common.{arith}
use Rattle.rr_decide.proofs.AlikeLemmas.{equal_more, most_more}
use Rattle.rr_decide.proofs.long.greatest_of_equal.Goals as goal

pub loop-index-init : goal.loop-index-init
loop-index-init c = ((λ t k low high. absurd (omega arith)), λ k low high. absurd (omega arith))

pub loop-index-preserved : goal.loop-index-preserved
loop-index-preserved c = (
  equal_more c.args.xs.now c.args.ys.now c.args.from c.loop-index.index c.loop-index.equal c.loop-index.invariant.0,
  most_more c.args.xs.now c.args.from c.loop-index.index c.loop-index.greatest c.max-greatest.result c.max-greatest.ensures c.loop-index.invariant.1,
)
