use Rattle.std.proofs.Common.{◌∙◌, sym, to_z-of_z, rules, FitsSigned, w64}
use Rattle.std.specs.Prelude.{int_lt}
use Rattle.rr_model.specs.Rising.Sets.{IsSetOf}
use Rattle.rr_model.specs.Rule.DaysAndTimes.{IsCandidateDay}
use Rattle.rr_expand.specs.Expansion.{IsAllowedDay}
use Rattle.std.proofs.lemmas.Result.{IfOk-weaker}
use Rattle.rr_expand.proofs.CandidateDays.{candidate_days}
use Rattle.rr_expand.proofs.unit_days.days.Goals as goal

pub returns : goal.returns
returns c =
    let rule = c.args.rule.now in
    let start = c.new-start.ensures ∙ to_z-of_z c.ranges.start_day in
    let fits : FitsSigned w64 c.first_day_of_unit-first.result = search rules in
    let unit = to_z-of_z c.ranges.unit in
    let begins = rw unit at c.first_day_of_unit-first.ensures in
    let ends = rw unit at (c.days_in_unit.ensures.next rule.week_start) in
    let fit = rw (start, unit) at (sym c.unit_fits.ensures ∙ c.if-not-unit_fits.false) in
    IfOk-weaker c.days_from.result
    (λ days. IsSetOf int_lt days (IsAllowedDay rule c.args.start_day c.first_day_of_unit-first.result c.days_in_unit.result))
    (λ days. IsSetOf int_lt days (IsCandidateDay rule c.args.start_day c.args.unit))
    (λ days set. candidate_days rule c.args.start_day c.args.unit c.first_day_of_unit-first.result c.days_in_unit.result days c.requires.freq begins ends
    fit set)
    (rw (start, to_z-of_z fits) at c.days_from.ensures)
