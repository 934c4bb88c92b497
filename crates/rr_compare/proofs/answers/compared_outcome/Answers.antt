use Rattle.std.proofs.lemmas.Result.{IfOk-weaker}
use Rattle.rr_facts.specs.Facts.{facts_in}
use Rattle.rr_compare.specs.Calendars.{calendar_in, calendar_of}
use Rattle.rr_compare.specs.Names.{meaning_of_names}
use Rattle.rr_compare.specs.Outcomes.{outcome_is, text_calendar}
use Rattle.rr_compare.specs.Parsed.{request_in}
use Rattle.rr_compare.proofs.AnswerLemmas.{read_a, refused_a}
use Rattle.rr_compare.proofs.answers.compared_outcome.Goals as goal

pub returns-in-Ok : goal.returns-in-Ok
returns-in-Ok g c =
    let old = c.args.old in
    let means = meaning_of_names old.names in
    IfOk-weaker c.outcome_beside.result _ _
    (λ x h. read_a (request_in c.args.request) (facts_in c.args.facts.now) (calendar_of old.language old.is_lenient means old.names.offset old.bytes.now) means (outcome_is x)
    (calendar_in c.in-Ok.file) (text_calendar c.args.new) c.in-Ok.ensures h)
    c.outcome_beside.ensures

pub returns-in-Err : goal.returns-in-Err
returns-in-Err g c =
    let old = c.args.old in
    let means = meaning_of_names old.names in
    IfOk-weaker c.refusal_outcome.result _ _
    (λ x h. refused_a (request_in c.args.request) (facts_in c.args.facts.now) (calendar_of old.language old.is_lenient means old.names.offset old.bytes.now) means (outcome_is x)
    (text_calendar c.args.new) c.in-Err.fault c.in-Err.ensures h)
    c.refusal_outcome.ensures
