use Rattle.std.proofs.Common.{refl}
use Rattle.rr_translate.proofs.GraphLemmas.{repeat_is_valid, repeat_is_written}
use Rattle.rr_model.proofs.EqualLemmas.{HaveEqualOccurrences-refl}
use Rattle.rr_translate.proofs.graph.graph_of_days.Goals as goal

pub returns-in-None : goal.returns-in-None
returns-in-None g c = (c.in-None.ensures, refl)

pub write-requires-clause-valid : goal.write-requires-clause-valid
write-requires-clause-valid g c =
    let event = c.in-Some.event in
    repeat_is_valid _ _ (HaveEqualOccurrences-refl _) event.kind event.start event.repeat c.in-Some.ensures

pub returns-in_ok-write-in-Some : goal.returns-in_ok-write-in-Some
returns-in_ok-write-in-Some g c =
    let event = c.in-Some.event in
    repeat_is_written _ _ (HaveEqualOccurrences-refl _) event.kind event.start event.repeat c.in_ok-write-in-Some.field-0.items c.in-Some.ensures
    c.in_ok-write-in-Some.ensures.text
