use Rattle.std.proofs.Common.{length, sym, ap, subst, arith}
use Rattle.rr_shapes.specs.Placing.{IsPlaced}
use Rattle.rr_shapes.proofs.ShapeLemmas.{few, number_few, known_placed, known_in, placed_within}
use Rattle.rr_shapes.proofs.shapes.Shapes.place.Goals as goal

pub overflow_cast-result : goal.overflow_cast-result
overflow_cast-result c =
    omega (arith, number_few c.self.inside.sets c.self.inside.size c.in-Some.number c.args.times c.self.invariant c.in-Some.ensures.found)

pub returns-in-Some-clause-placed : goal.returns-in-Some-clause-placed
returns-in-Some-clause-placed c =
    rw (← c.self.view_is) (subst (λ new. IsPlaced c.args.times c.self.inside.sets new c.in-Some.number) (sym c.find.ensures.unchanged)
    (known_placed c.self.inside.sets c.args.times c.in-Some.number c.in-Some.ensures.found))

pub returns-in-Some-clause-refused : goal.returns-in-Some-clause-refused
returns-in-Some-clause-refused c =
    rw (← c.self.view_is) (λ t. t.fresh (known_in c.self.inside.sets c.args.times c.in-Some.number c.in-Some.ensures.found))

pub overflow_cast-result-2 : goal.overflow_cast-result-2
overflow_cast-result-2 c =
    omega (
      arith,
      few c.self.inside.sets c.self.inside.size c.self.invariant,
      placed_within _ _ _ _ c.in-Ok.ensures.placed,
      ap length c.find.ensures.unchanged,
    )
