use Rattle.std.proofs.Common.{◌∙◌, List, sym, subst}
use Rattle.rr_length.specs.Lengths.{HasNearDates}
use Rattle.rr_length.specs.declared.lengths.Dated.{Dated}
use Rattle.rr_length.proofs.OrderLemmas.{near_same}
use Rattle.rr_length.proofs.other.first_other_length.Goals as goal

pub other_of_rising-requires-clause-near_a : goal.other_of_rising-requires-clause-near_a
other_of_rising-requires-clause-near_a g c =
    let near = subst (λ (ds : List Dated). HasNearDates ds) (c.dated.ensures ∙ sym c.dated-2.ensures) (c.are_near.ensures.0 c.if-not-are_near.false) in
    subst (λ (ds : List Dated). HasNearDates ds) (sym c.deref.ensures.value)
    (near_same c.in_ok-rising_a.rising_a.items c.dated-2.result.now c.in_ok-rising_a.ensures.same near)

pub other_of_rising-requires-clause-near_b : goal.other_of_rising-requires-clause-near_b
other_of_rising-requires-clause-near_b g c =
    let near = subst (λ (ds : List Dated). HasNearDates ds) (c.dated-else-not-are_near.ensures ∙ sym c.dated-3.ensures)
    (c.are_near-else-not-are_near.ensures.0 c.if-not-are_near-2.false) in
    subst (λ (ds : List Dated). HasNearDates ds) (sym c.deref-2.ensures.value)
    (near_same c.in_ok-rising_b.rising_b.items c.dated-3.result.now c.in_ok-rising_b.ensures.same near)
