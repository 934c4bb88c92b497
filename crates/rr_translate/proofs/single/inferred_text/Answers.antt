use Rattle.std.proofs.Common.{All, sym, subst, ap, ◌∙◌}
use Rattle.rr_model.specs.Series.Occurrences.{Occurs}
use Rattle.rr_model.specs.Series.Validity.{IsValidSeries}
use Rattle.rr_model.specs.Text.WriteLaws.{IsOneEnd}
use Rattle.rr_model.specs.Text.Written.{calendar_written}
use Rattle.rr_model.specs.Vcal.Counterpart.{series_of_vseries}
use Rattle.rr_model.specs.Vcal.Validity.{IsValidVSeries}
use Rattle.rr_model.specs.declared.rule.Series.{Series}
use Rattle.rr_translate.specs.Translated.{IsInferredText}
use Rattle.rr_translate.proofs.SingleLemmas.{is_inferred_text, no_excluded, one_end, single_is_valid}
use Rattle.rr_translate.proofs.single.inferred_text.Goals as goal

pub to_series-requires : goal.to_series-requires
to_series-requires c =
    let first = c.in_ok-first.ensures.1 in
    subst IsValidVSeries (sym first.same) (single_is_valid (Occurs c.args.series.now) first.rule first.kind first.start first.is_first)

pub write-requires-clause-one : goal.write-requires-clause-one
write-requires-clause-one c =
    let first = c.in_ok-first.ensures.1 in
    let made = c.in_ok-counterpart.ensures.value ∙ ap series_of_vseries first.same in
    subst (λ (s : Series). All (λ rule. IsOneEnd rule.end) s.rules) (sym made)
    (one_end (Occurs c.args.series.now) first.rule first.kind first.start first.is_first)

pub write-requires-clause-excluded_one : goal.write-requires-clause-excluded_one
write-requires-clause-excluded_one c =
    let first = c.in_ok-first.ensures.1 in
    let made = c.in_ok-counterpart.ensures.value ∙ ap series_of_vseries first.same in
    subst (λ (s : Series). All (λ rule. IsOneEnd rule.end) s.excluded) (sym made)
    (no_excluded (Occurs c.args.series.now) first.rule first.kind first.start first.is_first)

pub returns : goal.returns
returns c =
    let first = c.in_ok-first.ensures.1 in
    let made = c.in_ok-counterpart.ensures.value ∙ ap series_of_vseries first.same in
    let valid = subst IsValidSeries made c.in_ok-counterpart.ensures.valid in (
      c.in_ok-first.ensures.0,
      subst (IsInferredText (Occurs c.args.series.now)) (sym (c.in_ok-write.ensures ∙ ap calendar_written made))
          (is_inferred_text (Occurs c.args.series.now) first.rule first.kind first.start first.is_first valid),
    )
