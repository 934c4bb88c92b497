use Rattle.std.proofs.Common.{ap, sym, ◌∙◌}
use Rattle.std.specs.Prelude.{if◌then◌else◌}
use Rattle.rr_events.specs.RawLines.{lines_of}
use Rattle.rr_zone.specs.Events.{event_facts}
use Rattle.rr_zone.specs.Zones.{raw_lines_in}
use Rattle.rr_zone.specs.declared.part.Content.TheVariants.{Event, Zone}
use Rattle.rr_zone.proofs.FullLemmas.{facts_full}
use Rattle.rr_zone.proofs.part.component_content.Goals as goal

pub returns : goal.returns
returns c =
    let lines = lines_of (raw_lines_in c.args.piece) in
    ap Event ((rw (c.as_slice.ensures, c.in_ok-lines.ensures) at c.in_ok-event_facts.ensures) ∙ facts_full lines)
    ∙ ap (λ b. if b then Event (event_facts lines) else Zone) (sym (sym c.in_ok-begins_event.ensures ∙ c.if-not-branch.false))
