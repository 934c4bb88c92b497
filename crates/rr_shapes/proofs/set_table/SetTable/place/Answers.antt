use Rattle.std.proofs.Common.{subst}
use Rattle.rr_shapes.specs.Tables.{Extends}
use Rattle.rr_shapes.proofs.ShapeLemmas.{interned_extends}
use Rattle.rr_shapes.proofs.TableLemmas.{table_with_sets}
use Rattle.rr_shapes.proofs.set_table.SetTable.place.Goals as goal

pub invariant_of-self-2 : goal.invariant_of-self-2
invariant_of-self-2 c =
    table_with_sets c.self.inside.sets c.intern.new.self c.self.inside.unions c.self.inside.differences c.self.invariant
    (interned_extends c.intern.result c.self.inside.sets c.intern.new.self c.args.times c.intern.ensures.placed c.intern.ensures.unchanged)
    c.intern.ensures.numbering.of_day

pub returns-clause-kept : goal.returns-clause-kept
returns-clause-kept c =
    subst (λ sets. Extends sets c.intern.new.self) c.self.view_is
    (interned_extends c.intern.result c.self.inside.sets c.intern.new.self c.args.times c.intern.ensures.placed c.intern.ensures.unchanged)
