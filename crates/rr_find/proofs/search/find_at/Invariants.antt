use Rattle.rr_find.specs.Found.{HasNoRuleBefore}
use Rattle.rr_find.proofs.search.find_at.Given as goal

-- no rule of the kinds so far has the set
abbrev pub invariant-loop-kind : goal.invariant-loop-kind
invariant-loop-kind g l = HasNoRuleBefore (g.A.DaySeq.sketch l.seq) l.interval l.kind-index
