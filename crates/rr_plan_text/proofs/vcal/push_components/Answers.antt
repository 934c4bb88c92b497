use Rattle.rr_text.proofs.WrittenListLemmas.{one_written}
use Rattle.rr_plan_text.specs.VcalText.{component_text}
use Rattle.rr_plan_text.proofs.vcal.push_components.Goals as goal

pub loop-event-preserved : goal.loop-event-preserved
loop-event-preserved c =
    one_written component_text c.loop-event.out.items c.push_component.new.out.items _ c.args.events.now c.loop-event.event-index
    c.event-item.result _ c.loop-event-test.true c.event-item.is c.loop-event.invariant c.in_ok-push_component.ensures
