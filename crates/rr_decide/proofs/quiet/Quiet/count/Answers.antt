use Rattle.std.proofs.Common.{arith}
use Rattle.rr_decide.proofs.QuietLemmas.{has_either, has_joined}
use Rattle.rr_decide.proofs.quiet.Quiet.count.Goals as goal

pub loop-from-init : goal.loop-from-init
loop-from-init c = (omega arith, (λ k l. c.count_from-from.ensures.has k (omega arith) l), c.count_from-from.ensures.kept)

pub returns-then-next-stop-clause-has : goal.returns-then-next-stop-clause-has
returns-then-next-stop-clause-has c =
    has_joined c.args.self.now c.loop-from.self c.args.xs.now c.args.ys.now c.loop-from.from c.count_from-next.result c.loop-from.invariant.1
    c.loop-from.invariant.2
    (has_either c.loop-from.self c.args.xs.now c.args.ys.now c.loop-from.from c.pass_blocks-block.result c.count_from-next.result
    c.pass_blocks-block.ensures.has c.count_from-next.ensures.has)

pub returns-then-next-stop-clause-kept : goal.returns-then-next-stop-clause-kept
returns-then-next-stop-clause-kept c = λ a b h. c.loop-from.invariant.2 a b (c.count_from-next.ensures.kept a b h)

pub loop-from-preserved : goal.loop-from-preserved
loop-from-preserved c = (
  omega arith,
  has_joined c.args.self.now c.loop-from.self c.args.xs.now c.args.ys.now c.loop-from.from c.count_from-next.result c.loop-from.invariant.1
      c.loop-from.invariant.2
      (has_either c.loop-from.self c.args.xs.now c.args.ys.now c.loop-from.from c.pass_blocks-block.result c.count_from-next.result
      c.pass_blocks-block.ensures.has c.count_from-next.ensures.has),
  λ a b h. c.loop-from.invariant.2 a b (c.count_from-next.ensures.kept a b h),
)
