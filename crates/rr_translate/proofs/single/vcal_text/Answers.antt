use Rattle.std.proofs.Common.{sym, subst, ap, ◌∙◌}
use Rattle.rr_model.specs.Series.Occurrences.{Occurs}
use Rattle.rr_model.specs.Vcal.Validity.{IsValidVSeries}
use Rattle.rr_model.specs.Vcal.Written.{vcal_written}
use Rattle.rr_translate.specs.Translated.{IsVcalText}
use Rattle.rr_translate.proofs.SingleLemmas.{is_vcal_text, single_is_valid}
use Rattle.rr_translate.proofs.single.vcal_text.Goals as goal

pub write-requires : goal.write-requires
write-requires c =
    let first = c.in_ok-first.ensures.1 in
    subst IsValidVSeries (sym first.same) (single_is_valid (Occurs c.args.series.now) first.rule first.kind first.start first.is_first)

pub returns : goal.returns
returns c =
    let first = c.in_ok-first.ensures.1 in (
      c.in_ok-first.ensures.0,
      subst (IsVcalText (Occurs c.args.series.now)) (sym (c.in_ok-write.ensures ∙ ap vcal_written first.same))
          (is_vcal_text (Occurs c.args.series.now) first.rule first.kind first.start first.is_first),
    )
