use Rattle.rr_runs.proofs.PagesLemmas.{equal_by_halves}
use Rattle.rr_runs.proofs.blocks.are_equal.Goals as goal

pub returns-then-is_same_block : goal.returns-then-is_same_block
returns-then-is_same_block c = λ yes.
    equal_by_halves c.args.xs.now c.args.ys.now c.requires.xs c.requires.ys (c.is_same_block.ensures c.if-is_same_block.true)
    (c.is_same_block-then-is_same_block.ensures yes)
