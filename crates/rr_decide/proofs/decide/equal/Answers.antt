use Rattle.rr_decide.proofs.QuestionLemmas.{equal_verdict}
use Rattle.rr_decide.proofs.WindowLemmas.{least_equal_window}
use Rattle.rr_decide.proofs.decide.equal.Goals as goal

pub verdict_by_walk-requires-clause-window : goal.verdict_by_walk-requires-clause-window
verdict_by_walk-requires-clause-window g c =
    least_equal_window (g.A.DaySeq.sketch c.args.a.now) (g.B.DaySeq.sketch c.args.b.now) _ _ _ (g.met.A.DaySeq.bounded c.args.a.now).valid
    (g.met.B.DaySeq.bounded c.args.b.now).valid c.period.ensures.value c.period-2.ensures.value c.equal_days.ensures

pub returns-clause-verdict : goal.returns-clause-verdict
returns-clause-verdict g c = equal_verdict (g.A.DaySeq.sketch c.args.a.now) (g.B.DaySeq.sketch c.args.b.now) c.verdict_by_walk.result c.verdict_by_walk.ensures.verdict
