use Rattle.rr_days.specs.Sequence.{sketch}
use Rattle.rr_plan.specs.Plan.{IsKept, IsPart}
use Rattle.rr_split.proofs.PlanLemmas.{cancelled_of}
use Rattle.rr_split.proofs.SoFarLemmas.{SoFar}
use Rattle.rr_split.proofs.split.take_parts.Given as goal

-- the parts so far and the rest are the set
abbrev pub invariant-loop-event : goal.invariant-loop-event
invariant-loop-event l = SoFar IsPart IsKept cancelled_of (sketch l.fn.days) (sketch l.rest) l.parts.items l.room l.event-index
