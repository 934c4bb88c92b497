use Rattle.std.proofs.Common.{subst, arith}
use Rattle.rr_canon.specs.Placed.{IsNumbered}
use Rattle.rr_shapes.proofs.ShapeLemmas.{placed_within}
use Rattle.rr_canon.proofs.SetNumberLemmas.{numbered_where_placed}
use Rattle.rr_canon.proofs.stretch.add_set.Goals as goal

pub overflow_cast-result : goal.overflow_cast-result
overflow_cast-result c = omega (arith, c.requires.few, placed_within _ _ _ _ c.in_ok-number.ensures.placed)

pub returns-clause-placed : goal.returns-clause-placed
returns-clause-placed c =
    subst (λ times. IsNumbered times c.args.sets.now c.insert.new.self c.in_ok-number.number) c.in_ok-set.ensures
    (numbered_where_placed c.in_ok-set.set c.args.sets.now c.insert.new.self c.in_ok-number.number c.insert.ensures.numbering
    c.in_ok-number.ensures.placed)
