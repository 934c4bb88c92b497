use Rattle.std.proofs.Common.{arith}
use Rattle.rr_shapes.proofs.ShapeLemmas.{number_few, known_placed, known_in}
use Rattle.rr_shapes.proofs.shapes.Shapes.place_seconds.Goals as goal

pub overflow_cast-result : goal.overflow_cast-result
overflow_cast-result c =
    omega (arith, number_few c.self.inside.sets c.self.inside.size c.in-Some.number c.args.times.now c.self.invariant c.in-Some.ensures)

pub returns-in-Some-clause-placed : goal.returns-in-Some-clause-placed
returns-in-Some-clause-placed c = rw (← c.self.view_is) (known_placed c.self.inside.sets c.args.times.now c.in-Some.number c.in-Some.ensures)

pub returns-in-Some-clause-refused : goal.returns-in-Some-clause-refused
returns-in-Some-clause-refused c =
    rw (← c.self.view_is) (λ t. t.fresh (known_in c.self.inside.sets c.args.times.now c.in-Some.number c.in-Some.ensures))
