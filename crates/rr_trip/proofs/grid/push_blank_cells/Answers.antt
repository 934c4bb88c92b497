use Rattle.rr_trip.proofs.GridLemmas.{one_blank}
use Rattle.rr_trip.proofs.grid.push_blank_cells.Goals as goal

pub loop-preserved : goal.loop-preserved
loop-preserved c = one_blank c.args.out.now.items c.loop.out.items _ c.loop.counter c.loop.invariant c.in_ok-push.ensures
