use Rattle.std.proofs.Common.{refl, arith}
use Rattle.rr_decide.proofs.QuietLemmas.{has_more}
use Rattle.rr_decide.proofs.quiet.Quiet.count_from.Goals as goal

pub loop-index-init : goal.loop-index-init
loop-index-init c = ((λ k low high. absurd (omega arith)), λ a b h. h)

pub returns-then-not-recall-clause-kept : goal.returns-then-not-recall-clause-kept
returns-then-not-recall-clause-kept c = λ a b h. c.loop-index.invariant.1 a b (c.recall.ensures.kept a b h)

pub loop-index-preserved : goal.loop-index-preserved
loop-index-preserved c = (
  has_more _ _ c.args.xs.now c.args.ys.now c.args.from c.loop-index.index _ _ c.loop-index.invariant.0 c.loop-index.invariant.1 refl refl
      (c.recall.ensures.has c.if-not-recall.false),
  λ a b h. c.loop-index.invariant.1 a b (c.recall.ensures.kept a b h),
)
