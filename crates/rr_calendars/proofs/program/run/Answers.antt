use Rattle.std.proofs.Common.{inl, inr, refl, rules}
use Rattle.std.proofs.lemmas.Option.{IfSome_then}
use Rattle.rr_io.proofs.ToldLemmas.{of_all}
use Rattle.rr_compare.specs.Outcomes.{outcome_is}
use Rattle.rr_compare.specs.Parsed.{words_of}
use Rattle.rr_calendars.specs.Run.{contents}
use Rattle.rr_compare.specs.Words.{asked_of}
use Rattle.rr_calendars.proofs.RunLemmas.{caused, ends_done, ends_failed, no_fault, usage_none}
use Rattle.rr_calendars.proofs.program.run.Goals as goal

pub returns-in-Err-Failed-clause-answer : goal.returns-in-Err-Failed-clause-answer
returns-in-Err-Failed-clause-answer g c =
    of_all (contents (asked_of (words_of c.args.words.now)) (g.S.Source.held c.args.source.now)) (λ files. (refl, refl))

pub returns-in-Err-NoMemory-clause-answer : goal.returns-in-Err-NoMemory-clause-answer
returns-in-Err-NoMemory-clause-answer g c =
    of_all (contents (asked_of (words_of c.args.words.now)) (g.S.Source.held c.args.source.now)) (λ files. (refl, refl))

pub returns-in-Err-NoMemory-clause-complete : goal.returns-in-Err-NoMemory-clause-complete
returns-in-Err-NoMemory-clause-complete g c = λ same rose.
    of_all (contents (asked_of (words_of c.args.words.now)) (g.S.Source.held c.args.source.now)) (λ files. inl refl)

pub returns-in-Err-Failed-put-clause-answer : goal.returns-in-Err-Failed-put-clause-answer
returns-in-Err-Failed-put-clause-answer g c =
    let asked = asked_of (words_of c.args.words.now) in
    let held = g.S.Source.held c.args.source.now in
    let put = rw c.in-Err-Failed-put.field-0-is at c.in-Err-Failed-put.ensures.put in
    ends_failed asked held (outcome_is c.in-Ok.outcome) c.in-Ok.ensures.answer c.as_slice.result.now c.as_slice.ensures.value _ _ put.0

pub returns-in-Err-NoMemory-put-clause-answer : goal.returns-in-Err-NoMemory-put-clause-answer
returns-in-Err-NoMemory-put-clause-answer g c =
    let put = rw c.in-Err-NoMemory-put.field-0-is at c.in-Err-NoMemory-put.ensures.put in
    of_all (contents (asked_of (words_of c.args.words.now)) (g.S.Source.held c.args.source.now)) (λ files. (refl, put.0))

pub returns-in-Err-NoMemory-put-clause-complete : goal.returns-in-Err-NoMemory-put-clause-complete
returns-in-Err-NoMemory-put-clause-complete g c = λ same rose.
    of_all (contents (asked_of (words_of c.args.words.now)) (g.S.Source.held c.args.source.now)) (λ files. inl refl)

pub returns-clause-answer : goal.returns-clause-answer
returns-clause-answer g c =
    let asked = asked_of (words_of c.args.words.now) in
    let held = g.S.Source.held c.args.source.now in
    ends_done asked held (outcome_is c.in-Ok.outcome) c.in-Ok.ensures.answer c.as_slice.result.now c.as_slice.ensures.value _ _
    c.in-Ok.ensures.ending c.in-Ok-put.ensures.put.0

pub returns-clause-cause : goal.returns-clause-cause
returns-clause-cause g c =
    caused (asked_of (words_of c.args.words.now)) c.in-Ok.outcome.status g.S.Source.failed _ _ g.K.Sink.faults _ _ c.in-Ok.ensures.ending
    (c.in-Ok.ensures.kept (search rules)) c.in-Ok-put.ensures.put.1

pub returns-clause-usage : goal.returns-clause-usage
returns-clause-usage g c = usage_none (asked_of (words_of c.args.words.now)) c.in-Ok.outcome.status c.in-Ok.ensures.ending

pub returns-clause-quiet : goal.returns-clause-quiet
returns-clause-quiet g c = λ fault. absurd (no_fault (asked_of (words_of c.args.words.now)) c.in-Ok.outcome.status c.in-Ok.ensures.ending fault)

pub returns-clause-complete : goal.returns-clause-complete
returns-clause-complete g c = λ same rose.
    IfSome_then (contents (asked_of (words_of c.args.words.now)) (g.S.Source.held c.args.source.now)) c.in-Ok.ensures.answer
    (λ files is. inr (outcome_is c.in-Ok.outcome, is, refl))
