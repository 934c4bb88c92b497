use Rattle.std.proofs.Common.{ap, sym, ◌∙◌, subst}
use Rattle.std.specs.Prelude.{int_lt}
use Rattle.rr_model.specs.Rising.{Rises}
use Rattle.rr_model.specs.Vcal.Counterpart.{rules_of_vrules}
use Rattle.rr_model.proofs.StartLemmas.{IsDayWithin-start}
use Rattle.rr_model.proofs.BackLemmas.{in_years_back}
use Rattle.rr_vcal.proofs.ValidSeriesLemmas.{series_is, series_is_valid}
use Rattle.rr_vcal.proofs.series.to_series.Goals as goal

pub rules_of-requires-clause-start : goal.rules_of-requires-clause-start
rules_of-requires-clause-start c =
    let series = c.args.series.now in
    rw (in_years_back series.kind series.start c.requires.start) (IsDayWithin-start 1000 series.kind series.start c.requires.start)

pub rules_of-requires-2-clause-start : goal.rules_of-requires-2-clause-start
rules_of-requires-2-clause-start c =
    let series = c.args.series.now in
    rw (in_years_back series.kind series.start c.requires.start) (IsDayWithin-start 1000 series.kind series.start c.requires.start)

pub returns-clause-valid : goal.returns-clause-valid
returns-clause-valid c =
    let series = c.args.series.now in
    let same = in_years_back series.kind series.start c.requires.start in
    let made = c.in_ok-rules.ensures ∙ ap (λ s. rules_of_vrules series.kind s c.as_slice.result.now) same
    ∙ ap (rules_of_vrules series.kind series.start) c.as_slice.ensures in
    let out = c.in_ok-excluded.ensures ∙ ap (λ s. rules_of_vrules series.kind s c.as_slice-2.result.now) same
    ∙ ap (rules_of_vrules series.kind series.start) c.as_slice-2.ensures in
    series_is_valid series _ _ _ _ _ same made out c.in_ok-plus.ensures c.in_ok-minus.ensures (subst (Rises int_lt) c.plus.view_is c.plus.invariant)
    (subst (Rises int_lt) c.minus.view_is c.minus.invariant) c.requires

pub returns-clause-value : goal.returns-clause-value
returns-clause-value c =
    let series = c.args.series.now in
    let same = in_years_back series.kind series.start c.requires.start in
    let made = c.in_ok-rules.ensures ∙ ap (λ s. rules_of_vrules series.kind s c.as_slice.result.now) same
    ∙ ap (rules_of_vrules series.kind series.start) c.as_slice.ensures in
    let out = c.in_ok-excluded.ensures ∙ ap (λ s. rules_of_vrules series.kind s c.as_slice-2.result.now) same
    ∙ ap (rules_of_vrules series.kind series.start) c.as_slice-2.ensures in
    sym (series_is series _ _ _ _ _ same made out c.in_ok-plus.ensures c.in_ok-minus.ensures)
