use Rattle.rr_decide.specs.Question.{shown_by}
use Rattle.rr_model.specs.declared.question.Question.TheVariants.{Equal}
use Rattle.rr_decide.proofs.StandsLemmas.{first_asked}
use Rattle.rr_decide.proofs.long.verdict_apart_long.Goals as goal

pub returns-clause-verdict : goal.returns-clause-verdict
returns-clause-verdict g c =
    c.verdict_of_lesser.ensures.verdict (shown_by Equal) (g.A.DaySeq.sketch c.args.a.now) (g.B.DaySeq.sketch c.args.b.now) c.requires
    (first_asked (g.A.DaySeq.sketch c.args.a.now) _ c.read_first-of_a.ensures.first)
    (first_asked (g.B.DaySeq.sketch c.args.b.now) _ c.read_first-of_b.ensures.first)
