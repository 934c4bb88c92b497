use Rattle.std.proofs.Common.{ap, ◌∙◌, arith}
use Rattle.rr_days.specs.Sequence.{sketch}
use Rattle.rr_model.specs.Vcal.Members.{OccursInVseries}
use Rattle.rr_split.specs.Vcal.{IsRuleEvent}
use Rattle.rr_split.proofs.SoFarLemmas.{none_taken, one_taken, passed_over}
use Rattle.rr_split.proofs.VcalPlanLemmas.{minus_of}
use Rattle.rr_split.proofs.vcal.take_rules.Goals as goal
use Rattle.rr_split.proofs.vcal.take_rules.Goals.{in-Some+in_ok-push, in_default}

pub take_rule-requires : goal.take_rule-requires
take_rule-requires c = let all = c.loop-set.invariant.2 in omega (arith, all)

pub loop-set-init : goal.loop-set-init
loop-set-init c = none_taken IsRuleEvent OccursInVseries minus_of (sketch c.args.days) c.new-events.result.items c.new-events.ensures.items

pub loop-set-preserved : goal.loop-set-preserved
loop-set-preserved c = elim c.match-branch-2.branch [
  | in-Some+in_ok-push w ↦ (
      let event = w.in-Some.taken.event in
      let len = w.len-room.ensures in
      let less = w.room-is in
      let few = rw w.in-Some.is at c.in_ok-taken.ensures.few in
      one_taken IsRuleEvent OccursInVseries minus_of (sketch c.args.days) (sketch c.loop-set.rest) (sketch w.in-Some.taken.left)
      (sketch c.match-branch-2.rest) c.loop-set.events.items c.match-branch-2.events.items event c.loop-set.room c.match-branch-2.room
      c.loop-set.set-index c.loop-set.invariant (rw w.in-Some.is at c.in_ok-taken.ensures.taken) few
      (ap (λ v. v.items) w.events-is ∙ w.in_ok-push.ensures.items) (ap sketch w.rest-is) (omega (arith, len, less)))
  | in_default w ↦
      passed_over IsRuleEvent OccursInVseries minus_of (sketch c.args.days) (sketch c.loop-set.rest) (sketch c.match-branch-2.rest)
      c.loop-set.events.items c.match-branch-2.events.items c.loop-set.room c.match-branch-2.room c.loop-set.set-index c.loop-set.invariant
      (ap (λ v. v.items) w.events-is) (ap sketch w.rest-is) w.room-is
]
