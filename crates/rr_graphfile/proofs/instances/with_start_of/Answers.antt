use Rattle.std.proofs.Common.{rules, FitsSigned, w64, to_z-of_z, subst, sym}
use Rattle.rr_moved.specs.Moved.{AreInYears}
use Rattle.rr_moved.proofs.ValidLemmas.{start_keeps}
use Rattle.rr_graphfile.proofs.instances.with_start_of.Goals as goal

pub returns-clause-years : goal.returns-clause-years
returns-clause-years c =
    let fits : FitsSigned w64 c.in_ok-start.start = search rules in
    subst (AreInYears c.args.beside.kind) (sym (rw (to_z-of_z fits) at c.in_ok-put_in.ensures))
    (start_keeps c.args.beside.kind c.args.shifts c.in_ok-start.start c.in_ok-start.ensures.years c.requires)
