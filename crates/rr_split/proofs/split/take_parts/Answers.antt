use Rattle.std.proofs.Common.{ap, ◌∙◌, arith}
use Rattle.rr_days.specs.Sequence.{sketch}
use Rattle.rr_plan.specs.Plan.{IsKept, IsPart}
use Rattle.rr_split.proofs.PlanLemmas.{cancelled_of}
use Rattle.rr_split.proofs.SoFarLemmas.{none_taken, one_taken, passed_over}
use Rattle.rr_split.proofs.split.take_parts.Goals as goal
use Rattle.rr_split.proofs.split.take_parts.Goals.{in-Some+in_ok-push, in_default}

pub loop-event-init : goal.loop-event-init
loop-event-init c = none_taken IsPart IsKept cancelled_of (sketch c.args.days) c.new-parts.result.items c.new-parts.ensures.items

pub loop-event-preserved : goal.loop-event-preserved
loop-event-preserved c = elim c.match-branch-2.branch [
  | in-Some+in_ok-push w ↦ (
      let part = w.in-Some.taken.part in
      let len = w.len-room.ensures in
      let less = w.room-is in
      let few = rw w.in-Some.is at c.in_ok-taken.ensures.few in
      one_taken IsPart IsKept cancelled_of (sketch c.args.days) (sketch c.loop-event.rest) (sketch w.in-Some.taken.left) (sketch c.match-branch-2.rest) c.loop-event.parts.items
      c.match-branch-2.parts.items part c.loop-event.room c.match-branch-2.room c.loop-event.event-index c.loop-event.invariant
      (rw w.in-Some.is at c.in_ok-taken.ensures.taken) few (ap (λ v. v.items) w.parts-is ∙ w.in_ok-push.ensures.items) (ap sketch w.rest-is)
      (omega (arith, len, less)))
  | in_default w ↦
      passed_over IsPart IsKept cancelled_of (sketch c.args.days) (sketch c.loop-event.rest) (sketch c.match-branch-2.rest) c.loop-event.parts.items c.match-branch-2.parts.items
      c.loop-event.room c.match-branch-2.room c.loop-event.event-index c.loop-event.invariant (ap (λ v. v.items) w.parts-is) (ap sketch w.rest-is) w.room-is
]
