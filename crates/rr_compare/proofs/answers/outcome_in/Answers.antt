use Rattle.rr_compare.proofs.answers.outcome_in.Goals as goal

pub returns : goal.returns
returns g c =
    let zones = c.in_ok-zones.ensures in
    rw (
      c.deref.ensures.value,
      c.in_ok-old.ensures,
      c.deref-2.ensures.value,
      c.in_ok-new.ensures,
      zones.old,
      zones.new,
      zones.more,
      c.offset_by.ensures,
      c.offset_by-2.ensures,
      c.facts_of-facts.ensures,
    ) at c.compared_outcome.ensures
