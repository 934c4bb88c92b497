use Rattle.rr_days.specs.Sequence.{sketch}
use Rattle.rr_model.specs.Vcal.Members.{OccursInVseries}
use Rattle.rr_split.specs.Vcal.{IsRuleEvent}
use Rattle.rr_split.proofs.SoFarLemmas.{SoFar}
use Rattle.rr_split.proofs.VcalPlanLemmas.{minus_of}
use Rattle.rr_split.proofs.vcal.take_rules.Given as goal

-- the events so far and the rest are the set
abbrev pub invariant-loop-set : goal.invariant-loop-set
invariant-loop-set l = SoFar IsRuleEvent OccursInVseries minus_of (sketch l.fn.days) (sketch l.rest) l.events.items l.room l.set-index
