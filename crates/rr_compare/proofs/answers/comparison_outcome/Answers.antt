use Rattle.std.proofs.lemmas.Result.{IfOk-weaker}
use Rattle.rr_compare.proofs.answers.comparison_outcome.Goals as goal

pub returns : goal.returns
returns g c =
    IfOk-weaker c.report_outcome.result _ _
    (λ x h. record { lines = c.in_ok-report.report.lines.items; report = c.in_ok-report.ensures; tells = h })
    c.report_outcome.ensures.answer
