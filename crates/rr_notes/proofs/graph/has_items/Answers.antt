use Rattle.std.proofs.Common.{ap, sym, ◌∙◌}
use Rattle.rr_notes.specs.GraphNotes.{has_items}
use Rattle.rr_notes.proofs.GraphLemmas.{items_told}
use Rattle.rr_notes.proofs.graph.has_items.Goals as goal

pub returns-in-Some : goal.returns-in-Some
returns-in-Some c =
    let told = rw c.in-Some.is at c.as_array.ensures in
    rw (c.is_empty.ensures, c.as_slice.ensures.value) (sym (items_told c.in-Some.items.now.items) ∙ ap has_items told)
