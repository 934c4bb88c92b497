use Rattle.rr_model.specs.Graph.Validity.{IsValidPattern}
use Rattle.rr_graphfind.specs.Order.{NoneBefore}
use Rattle.rr_graphfind.specs.Search.{Matches}
use Rattle.rr_graphfind.proofs.OrderLemmas.{patterns_left}
use Rattle.rr_graphfind.proofs.search.first_pattern.Given as goal

-- no earlier pattern has the set
abbrev pub invariant-loop-group : goal.invariant-loop-group
invariant-loop-group g l = IsValidPattern l.pattern × NoneBefore (Matches (g.A.DaySeq.sketch l.seq) l.window) l.pattern

abbrev pub decreases-loop-group : goal.decreases-loop-group
decreases-loop-group g l = patterns_left l.pattern
