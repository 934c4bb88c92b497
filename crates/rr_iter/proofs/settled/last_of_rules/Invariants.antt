use Rattle.rr_iter.proofs.CountsLemmas.{AreCounted}
use Rattle.rr_iter.proofs.SettledLemmas.{IsGathered}
use Rattle.rr_iter.proofs.settled.last_of_rules.Given as goal

abbrev pub invariant-loop-rule : goal.invariant-loop-rule
invariant-loop-rule l = IsGathered l.kind l.start l.rules l.day l.rule-index l.last × AreCounted l.kind l.start l.rules l.rule-index l.counts.items
