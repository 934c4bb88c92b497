use Rattle.std.proofs.lemmas.Result.{IfOk-weaker}
use Rattle.rr_answer.specs.Outcome.{answer_of}
use Rattle.rr_answer.proofs.NumberLemmas.{rank_is_said}
use Rattle.rr_answer.proofs.numbers.rank_outcome.Goals as goal

pub returns-in_ok-rank_of-in-Ok : goal.returns-in_ok-rank_of-in-Ok
returns-in_ok-rank_of-in-Ok c =
    IfOk-weaker c.outcome_of_rank.result _ _
    (λ x e. rank_is_said _ _ _ _ c.in_ok-rank_of-in-Ok.field-0 (answer_of x) c.in-Ok.ensures.accepted c.in_ok-rank_of-in-Ok.ensures e)
    c.outcome_of_rank.ensures
