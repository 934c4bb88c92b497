use Rattle.std.proofs.Common.{rules, ◌≡◌, ◌++◌, false, ap, sym, subst, ◌∙◌}
use Rattle.std.specs.Prelude.{OnOk}
use Rattle.rr_plan_text.specs.VcalText.{component_text}
use Rattle.rr_plan_text.proofs.VcalLemmas.{others_rise, single_valid, single_written}
use Rattle.rr_plan_text.proofs.vcal.push_single.Goals as goal

pub dates_event-requires : goal.dates_event-requires
dates_event-requires c = others_rise c.args.single.now c.requires.rises

pub push_component-requires : goal.push_component-requires
push_component-requires c =
    single_valid c.args.kind c.args.single.now _ (sym c.is_empty.ensures ∙ c.if-is_empty.false) (search rules) c.in_ok-event.event c.requires.years
    c.requires.few c.in_ok-event.ensures

pub returns : goal.returns
returns c =
    subst (λ text. OnOk c.push_component.result (c.push_component.new.out.items ≡ c.args.out.now.items ++ text))
    (ap component_text c.in_ok-event.ensures
    ∙ single_written c.args.kind c.args.single.now _ (sym c.is_empty.ensures ∙ c.if-is_empty.false) (search rules))
    c.push_component.ensures
