use Rattle.rr_shapes.proofs.ShapeLemmas.{inserted_numbering, inserted_placed}
use Rattle.rr_shapes.proofs.time_sets.TimeSets.insert.Goals as goal

pub returns-clause-placed : goal.returns-clause-placed
returns-clause-placed c =
    let stored = c.in-Ok.ensures.stored in
    rw (← c.self.view_is)
    (inserted_placed c.self.inside.sets.keys c.insert_full.new.self.keys c.args.times c.in-Ok.number stored.0 c.in-Ok.ensures.keys stored.1 stored.2)

pub invariant_of-self-2 : goal.invariant_of-self-2
invariant_of-self-2 c =
    inserted_numbering c.self.inside.sets.keys c.insert_full.new.self.keys c.args.times c.self.invariant c.in-Ok.ensures.keys c.insert_full.ensures.unique
    c.requires.of_day

pub returns-clause-numbering : goal.returns-clause-numbering
returns-clause-numbering c = invariant_of-self-2 c
