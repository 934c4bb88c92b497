use Rattle.std.proofs.Common.{◌+◌, ◌-◌, arith}
use Rattle.rr_runs.proofs.PagesLemmas.{zero_by_halves}
use Rattle.rr_runs.proofs.pool.is_zero_page.Goals as goal

pub returns-then-is_block_of : goal.returns-then-is_block_of
returns-then-is_block_of c = λ yes.
    zero_by_halves c.args.pool.now c.args.page ((c.args.page + 63) - 32) (omega arith) (c.is_block_of.ensures c.if-is_block_of.true)
    (c.is_block_of-then-is_block_of.ensures yes)
