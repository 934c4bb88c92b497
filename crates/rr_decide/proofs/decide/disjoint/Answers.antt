use Rattle.rr_decide.specs.Question.{shown_by}
use Rattle.rr_model.specs.declared.question.Question.TheVariants.{Disjoint}
use Rattle.rr_decide.proofs.QuestionLemmas.{disjoint_verdict}
use Rattle.rr_decide.proofs.WindowLemmas.{lcm_window}
use Rattle.rr_decide.proofs.decide.disjoint.Goals as goal

pub verdict_by_walk-requires-clause-window : goal.verdict_by_walk-requires-clause-window
verdict_by_walk-requires-clause-window g c =
    lcm_window (shown_by Disjoint) (g.A.DaySeq.sketch c.args.a.now) (g.B.DaySeq.sketch c.args.b.now) _ _ _ (g.met.A.DaySeq.bounded c.args.a.now).valid
    (g.met.B.DaySeq.bounded c.args.b.now).valid c.period.ensures.value c.period-2.ensures.value c.common_cycle.ensures

pub returns-clause-verdict : goal.returns-clause-verdict
returns-clause-verdict g c = disjoint_verdict (g.A.DaySeq.sketch c.args.a.now) (g.B.DaySeq.sketch c.args.b.now) c.verdict_by_walk.result c.verdict_by_walk.ensures.verdict
