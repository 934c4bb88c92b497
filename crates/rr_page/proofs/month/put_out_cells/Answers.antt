use Rattle.rr_page.proofs.PutLemmas.{one_out}
use Rattle.rr_page.proofs.month.put_out_cells.Goals as goal

pub loop-preserved : goal.loop-preserved
loop-preserved c = one_out c.args.page.now c.loop.page _ c.loop.counter c.loop.invariant c.in_ok-piece.ensures
