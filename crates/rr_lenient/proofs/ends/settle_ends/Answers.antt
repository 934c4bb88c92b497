use Rattle.std.proofs.Common.{◌∙◌, sym, subst}
use Rattle.rr_model.specs.Series.Validity.{IsValidSeries}
use Rattle.rr_lenient.proofs.EndLemmas.{series_stays, series_valid}
use Rattle.rr_lenient.proofs.ends.settle_ends.Goals as goal

pub returns-in_ok-with_ends_of_kind-clause-valid : goal.returns-in_ok-with_ends_of_kind-clause-valid
returns-in_ok-with_ends_of_kind-clause-valid c = subst IsValidSeries (sym c.in_ok-with_ends_of_kind.ensures) (series_valid c.args.series c.requires)

pub returns-else-has_other_end-clause-settled : goal.returns-else-has_other_end-clause-settled
returns-else-has_other_end-clause-settled c = sym (series_stays c.args.series (sym c.has_other_end.ensures ∙ c.if-has_other_end.false))
