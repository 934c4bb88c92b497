use Rattle.std.proofs.Common.{sym, ap, ◌∙◌}
use Rattle.rr_model.specs.Text.Event.{is_event}
use Rattle.rr_events.proofs.LineLemmas.{cut-of}
use Rattle.rr_zone.proofs.ContentLemmas.{begun}
use Rattle.rr_zone.proofs.part.begins_event.Goals as goal

pub returns : goal.returns
returns c =
    let cut = cut-of c.args.piece.first c.args.piece.text.now _ c.in-Some.cut c.in-Some.is c.in_ok-cut.ensures in
    c.is_event-2.ensures
    ∙ ap is_event (c.value_or_empty.ensures
    ∙ sym (begun c.args.piece.first c.args.piece.text.now c.in-Some.cut.line c.in-Some.cut.after.now c.in-Some.cut.next cut))
