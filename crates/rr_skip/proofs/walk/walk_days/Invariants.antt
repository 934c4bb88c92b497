use Rattle.rr_skip.specs.Walks.{IsReached}
use Rattle.rr_skip.proofs.walk.walk_days.Given as goal

abbrev pub invariant-loop-index : goal.invariant-loop-index
invariant-loop-index l = IsReached l.schedule l.first l.index l.most l.turn l.walk
