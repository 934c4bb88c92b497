use Rattle.rr_io.proofs.ToldLemmas.{of_held}
use Rattle.rr_compare.specs.Answer.{IsAnswer}
use Rattle.rr_compare.specs.Calendars.{Texts}
use Rattle.rr_compare.specs.Outcomes.{outcome_is}
use Rattle.rr_compare.specs.Parsed.{words_of}
use Rattle.rr_compare.specs.Words.{asked_of}
use Rattle.rr_calendars.specs.Fetched.{texts_of}
use Rattle.rr_calendars.specs.Run.{contents}
use Rattle.rr_calendars.proofs.EndingLemmas.{answer_ending}
use Rattle.rr_calendars.proofs.work.outcome_of.Goals as goal

pub returns-clause-answer : goal.returns-clause-answer
returns-clause-answer g c =
    let files = rw c.parse-asked.ensures at c.in_ok-files.ensures.files in
    let answered = rw c.parse-asked.ensures at c.in_ok-answer_to.ensures in
    of_held (λ (files : Texts). IsAnswer (asked_of (words_of c.args.words.now)) files (outcome_is c.in_ok-answer_to.field-0))
    (contents (asked_of (words_of c.args.words.now)) (g.S.Source.held c.args.source.now))
    (texts_of c.in_ok-files.files) files (rw (← c.as_slice.ensures.value, ← c.as_slice-2.ensures.value, ← c.as_slice-3.ensures.value) answered)

pub returns-clause-ending : goal.returns-clause-ending
returns-clause-ending g c =
    answer_ending (asked_of (words_of c.args.words.now))
    (record { old = c.as_slice.result.now; new = c.as_slice-2.result.now; zones = c.as_slice-3.result.now }) (outcome_is c.in_ok-answer_to.field-0)
    (rw c.parse-asked.ensures at c.in_ok-answer_to.ensures)
