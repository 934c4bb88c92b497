use Rattle.std.proofs.lemmas.Result.{IfOk-weaker}
use Rattle.rr_answer.specs.Outcome.{answer_of}
use Rattle.rr_answer.proofs.SplittingLemmas.{vcal_split_is_said}
use Rattle.rr_answer.proofs.splitting.split_vcal_outcome.Goals as goal

pub returns-in-Ok : goal.returns-in-Ok
returns-in-Ok c =
    IfOk-weaker c.vcal_outcome_of_days.result _ _ (λ x e. vcal_split_is_said _ _ c.in-Ok.ensures.accepted c.args.most (answer_of x) e)
    c.vcal_outcome_of_days.ensures
