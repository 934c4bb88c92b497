use Rattle.rr_decide.specs.Question.{shown_by}
use Rattle.rr_decide.proofs.verdicts.verdict_apart.Goals as goal

pub returns-clause-verdict : goal.returns-clause-verdict
returns-clause-verdict g c =
    c.verdict_of_lesser.ensures.verdict (shown_by c.args.question) (g.A.DaySeq.sketch c.args.a.now) (g.B.DaySeq.sketch c.args.b.now) c.requires
    (rw (← c.is_shown_by-shows_a.ensures) c.first_if.ensures.first) (rw (← c.is_shown_by-shows_b.ensures) c.first_if-2.ensures.first)
