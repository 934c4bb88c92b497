use Rattle.std.proofs.lemmas.Result.{IfOk-weaker}
use Rattle.rr_facts.specs.Facts.{facts_in}
use Rattle.rr_compare.specs.Calendars.{calendar_in, calendar_of}
use Rattle.rr_compare.specs.Names.{meaning_of_names}
use Rattle.rr_compare.specs.Outcomes.{outcome_is, zoned_in}
use Rattle.rr_compare.specs.Parsed.{request_in}
use Rattle.rr_compare.proofs.AnswerLemmas.{read_b, refused_b}
use Rattle.rr_compare.proofs.answers.outcome_beside.Goals as goal

pub returns-in-Ok : goal.returns-in-Ok
returns-in-Ok g c =
    let new = c.args.new in
    let means = meaning_of_names new.names in
    IfOk-weaker c.outcome_of_both.result _ _
    (λ x h. read_b (request_in c.args.request) (facts_in c.args.facts.now) (calendar_of new.language new.is_lenient means new.names.offset new.bytes.now) means (outcome_is x)
    (zoned_in c.args.a) (calendar_in c.in-Ok.file) c.in-Ok.ensures h)
    c.outcome_of_both.ensures

pub returns-in-Err : goal.returns-in-Err
returns-in-Err g c =
    let new = c.args.new in
    let means = meaning_of_names new.names in
    IfOk-weaker c.refusal_outcome.result _ _
    (λ x h. refused_b (request_in c.args.request) (facts_in c.args.facts.now) (calendar_of new.language new.is_lenient means new.names.offset new.bytes.now) means (outcome_is x)
    (zoned_in c.args.a) c.in-Err.fault c.in-Err.ensures h)
    c.refusal_outcome.ensures
