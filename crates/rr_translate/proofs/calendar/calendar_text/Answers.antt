use Rattle.std.proofs.Common.{All, sym, subst, ap, ◌∙◌}
use Rattle.std.proofs.lemmas.Result.{IfOk-weaker}
use Rattle.rr_model.specs.Text.Written.{calendar_written}
use Rattle.rr_model.specs.Series.Soundness.{IsSound}
use Rattle.rr_model.specs.Series.Validity.{IsValidSeries}
use Rattle.rr_model.specs.Text.WriteLaws.{IsOneEnd}
use Rattle.rr_model.specs.declared.rule.Series.{Series}
use Rattle.rr_translate.specs.OneEnd.{with_one_ends}
use Rattle.rr_translate.specs.Translated.{IsCalendarText}
use Rattle.rr_translate.proofs.CalendarLemmas.{is_calendar_text}
use Rattle.rr_translate.proofs.OneEndLemmas.{ends_are_one, excluded_ends_are_one, series_valid}
use Rattle.rr_translate.proofs.calendar.calendar_text.Goals as goal

pub write-requires-clause-valid : goal.write-requires-clause-valid
write-requires-clause-valid c = subst IsValidSeries (sym c.in_ok-series.ensures) (series_valid c.series.result.now c.series.ensures.sound.valid)

pub write-requires-clause-one : goal.write-requires-clause-one
write-requires-clause-one c = subst (λ (s : Series). All (λ rule. IsOneEnd rule.end) s.rules) (sym c.in_ok-series.ensures) (ends_are_one c.series.result.now)

pub write-requires-clause-excluded_one : goal.write-requires-clause-excluded_one
write-requires-clause-excluded_one c =
    subst (λ (s : Series). All (λ rule. IsOneEnd rule.end) s.excluded) (sym c.in_ok-series.ensures) (excluded_ends_are_one c.series.result.now)

pub returns : goal.returns
returns c =
    let given = c.series.ensures.value in
    let sound = subst IsSound given c.series.ensures.sound in
    let made = c.in_ok-series.ensures ∙ ap with_one_ends given in
    IfOk-weaker c.write.result _ _
    (λ text e. subst (IsCalendarText c.args.series.now) (sym (e ∙ ap calendar_written made)) (is_calendar_text c.args.series.now sound c.requires.few))
    c.write.ensures
