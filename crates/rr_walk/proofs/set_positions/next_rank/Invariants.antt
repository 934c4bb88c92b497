use Rattle.rr_walk.proofs.PositionDayLemmas.{IsSearched}
use Rattle.rr_walk.proofs.set_positions.next_rank.Given as goal

abbrev pub invariant-loop-position : goal.invariant-loop-position
invariant-loop-position l = IsSearched l.positions l.each l.count l.fn.from l.position-index l.end
