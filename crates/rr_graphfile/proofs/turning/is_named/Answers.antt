use Rattle.std.proofs.Common.{◌≡◌, ℤ, FitsSigned, nat_eq, w64, of_z, to_z-of_z, rules, subst, ◌∙◌}
use Rattle.std.specs.Ordering.{int_eq}
use Rattle.rr_true.specs.Changes.{offset_of}
use Rattle.rr_true.specs.Moments.{IsTrueMoment}
use Rattle.rr_graphfile.proofs.TurningLemmas.{named_by}
use Rattle.rr_graphfile.proofs.turning.is_named.Goals as goal

pub returns : goal.returns
returns c =
    let ahead = offset_of c.args.zone.now in
    let fits : FitsSigned w64 c.local_in.result = search rules in
    let told = subst (λ (t : ℤ). IsTrueMoment ahead t c.true_moment.result) (rw (to_z-of_z c.ranges.at) at c.local_in.ensures.local)
    (rw (to_z-of_z fits) at c.true_moment.ensures) in
    let same : nat_eq (of_z w64 c.true_moment.result) (of_z w64 c.args.at) ≡ int_eq c.true_moment.result c.args.at = search rules in
    same ∙ named_by ahead c.args.at c.true_moment.result c.is_offset.ensures told
