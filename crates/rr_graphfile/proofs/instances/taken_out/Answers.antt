use Rattle.std.proofs.Common.{rules, FitsSigned, w64, to_z-of_z}
use Rattle.rr_graphfile.proofs.InstanceLemmas.{moment_taken, taken_in_years}
use Rattle.rr_graphfile.proofs.instances.taken_out.Goals as goal

pub returns-clause-value : goal.returns-clause-value
returns-clause-value c =
    let fits : FitsSigned w64 c.in_ok-at.at = search rules in
    moment_taken c.args.beside.place c.args.shifts c.in_ok-at.at c.take_out.result (rw (to_z-of_z fits) at c.take_out.ensures) _ c.in_ok-at.ensures.value

pub returns-clause-years : goal.returns-clause-years
returns-clause-years c =
    let fits : FitsSigned w64 c.in_ok-at.at = search rules in
    taken_in_years c.args.beside.place c.args.shifts c.in_ok-at.at c.take_out.result (rw (to_z-of_z fits) at c.take_out.ensures) c.args.beside.kind
    c.in_ok-at.ensures.years c.requires
