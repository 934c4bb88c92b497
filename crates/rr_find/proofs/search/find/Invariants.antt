use Rattle.rr_find.specs.Found.{HasNoRuleBelow}
use Rattle.rr_find.proofs.search.find.Given as goal

-- no rule of the intervals so far has the set
abbrev pub invariant-loop-interval : goal.invariant-loop-interval
invariant-loop-interval g l = HasNoRuleBelow (g.A.DaySeq.sketch l.seq) l.interval
