use Rattle.std.proofs.Common.{ap}
use Rattle.std.proofs.lemmas.Result.{IfOk-weaker}
use Rattle.rr_facts.specs.Facts.{facts_in}
use Rattle.rr_compare.specs.Outcomes.{outcome_is, zoned_in}
use Rattle.rr_compare.specs.Parsed.{request_in, word_in}
use Rattle.rr_compare.proofs.AnswerLemmas.{none_of_both, some_of_both}
use Rattle.rr_compare.proofs.answers.outcome_of_both.Goals as goal

pub returns-in-None : goal.returns-in-None
returns-in-None g c =
    let request = request_in c.args.request in
    IfOk-weaker c.comparison_outcome.result _ _
    (λ x h. none_of_both request (facts_in c.args.facts.now) (zoned_in c.args.a) (zoned_in c.args.b) (outcome_is x) request.show
    (ap word_in c.in-None.is) h)
    c.comparison_outcome.ensures

pub returns-in-Some : goal.returns-in-Some
returns-in-Some g c =
    let request = request_in c.args.request in
    IfOk-weaker c.name_outcome.result _ _
    (λ x h. some_of_both request (facts_in c.args.facts.now) (zoned_in c.args.a) (zoned_in c.args.b) (outcome_is x) request.show
    c.in-Some.name.now (ap word_in c.in-Some.is) h)
    c.name_outcome.ensures
