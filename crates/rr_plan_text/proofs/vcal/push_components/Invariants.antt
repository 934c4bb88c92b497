use Rattle.std.specs.Prelude.{◌≡◌, ◌++◌, drop}
use Rattle.rr_model.specs.Text.Written.{lines_of}
use Rattle.rr_plan_text.specs.VcalText.{component_text}
use Rattle.rr_plan_text.proofs.vcal.push_components.Given as goal

-- with the events that are still to come the text is the whole list
abbrev pub invariant-loop-event : goal.invariant-loop-event
invariant-loop-event l =
    l.out.items ++ lines_of component_text (drop l.event-index l.events) ≡ l.fn.out.items ++ lines_of component_text l.events
