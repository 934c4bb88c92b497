use Rattle.std.proofs.Common.{rules, sym, subst, w64, FitsSigned, to_z-of_z}
use Rattle.rr_model.specs.Series.Validity.{IsValidSeries}
use Rattle.rr_start.proofs.RereadLemmas.{valid_restated}
use Rattle.rr_start.proofs.restate.reread.Goals as goal

pub returns-in_ok-restated-in-Some-clause-valid : goal.returns-in_ok-restated-in-Some-clause-valid
returns-in_ok-restated-in-Some-clause-valid c =
    let fits : FitsSigned w64 c.in-Some.first = search rules in
    let off = rw c.in-Some.is at c.in_ok-first_of_off.ensures in
    let made = rw (to_z-of_z fits) at c.in_ok-restated-in-Some.ensures in
    subst IsValidSeries (sym made) (valid_restated c.args.series c.in-Some.first off c.requires)
