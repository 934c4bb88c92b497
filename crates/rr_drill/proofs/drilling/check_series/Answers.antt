use Rattle.std.proofs.Common.{sym, subst, ◌∙◌}
use Rattle.rr_model.specs.Series.Soundness.{first_refusal}
use Rattle.rr_model.specs.Series.Validity.{IsValidSeries}
use Rattle.std.proofs.Common.{ap, None, Some, ◌≡◌}
use Rattle.rr_drill.proofs.SeriesLemmas.{drawn_fits, drawn_valid}
use Rattle.rr_drill.proofs.drilling.check_series.Goals as goal

pub check-requires : goal.check-requires
check-requires c = record { valid = subst IsValidSeries (sym c.requires.1) (drawn_valid c.requires.0) }

pub unreachable-requires : goal.unreachable-requires
unreachable-requires c =
    let refused : first_refusal c.args.series ≡ Some c.in-Err.field-0 = c.in-Err.ensures.refused in
    let none : Some c.in-Err.field-0 ≡ None = sym refused ∙ ap first_refusal c.requires.1 ∙ drawn_fits c.requires.0 in
    absurd (cc)
