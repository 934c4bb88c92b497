use Rattle.std.proofs.Common.{rules, FitsSigned, w64, to_z-of_z, ℤ, Err, subst}
use Rattle.std.proofs.lemmas.Result.{err_from_is_err_and}
use Rattle.rr_seam.specs.Steps.{AnswersKey}
use Rattle.rr_moved.specs.Moved.{with_moment}
use Rattle.rr_icalfile.proofs.EditStepLemmas.{instance_put, twice}
use Rattle.rr_icalfile.proofs.edit.with_instance.Goals as goal

pub returns-in_err-shifts : goal.returns-in_err-shifts
returns-in_err-shifts c =
    let fits : FitsSigned w64 c.in-Ok.at = search rules in
    let p = err_from_is_err_and c.from_residual.result c.from_residual.ensures.1 in
    rw (p.1, p.2) (twice c.args.setting.offset c.args.setting.start c.args.shifts c.args.event.now c.in-Some.recurrence c.in-Some.is c.in-Ok.at
    c.in-Ok.ensures c.in_err-shifts.field-0.0
    (subst (λ (t : ℤ). AnswersKey (with_moment c.args.event.now.first c.args.shifts t) (Err c.in_err-shifts.field-0.0)) (to_z-of_z fits)
    c.in_err-shifts.ensures))

pub returns : goal.returns
returns c =
    let fits : FitsSigned w64 c.in-Ok.at = search rules in
    instance_put c.args.setting.offset c.args.setting.start c.args.shifts c.args.event.now c.in-Some.recurrence c.in-Some.is c.in-Ok.at c.in-Ok.ensures
    c.in_ok-shifts.shifts (rw (to_z-of_z fits) at c.in_ok-shifts.ensures) c.with_event_start.result c.with_event_start.ensures
