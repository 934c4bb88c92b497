use Rattle.std.specs.List.{slice_split}
use Rattle.std.proofs.lemmas.Result.{err_from_is_err_and}
use Rattle.rr_ical.specs.Kept.{is_date_separator, kept_date, kept_dates}
use Rattle.rr_ical.proofs.DateCutLemmas.{goes_on, ends}
use Rattle.rr_ical.proofs.KeptLemmas.{refused_answers, refused_becomes}
use Rattle.rr_ical.proofs.lines_alone.keep_dates.Goals as goal

pub returns-in_err-keep_date : goal.returns-in_err-keep_date
returns-in_err-keep_date g c =
    let p = err_from_is_err_and c.from_residual.result c.from_residual.ensures.1 in
    let fault = c.in_err-keep_date.field-0.0 in
    let read = c.loop-piece.read in
    let refused = refused_answers (kept_date c.args.line c.args.is_plus read c.in-Some.piece.now) c.keep_date.new.read fault c.in_err-keep_date.ensures in
    rw (p.1, p.2)
    (refused_becomes (kept_dates c.args.line c.args.is_plus c.args.read.now (slice_split (is_date_separator c.args.takes_semicolons) c.args.text.now))
    c.keep_date.new.read fault
    (ends c.args.line c.args.is_plus c.args.takes_semicolons read c.loop-piece.rest.now c.in-Some.piece.now c.in-Some.after.now fault _ c.in-Some.ensures
    refused c.loop-piece.invariant))

pub loop-piece-preserved : goal.loop-piece-preserved
loop-piece-preserved g c =
    goes_on c.args.line c.args.is_plus c.args.takes_semicolons c.loop-piece.read _ c.loop-piece.rest.now c.in-Some.piece.now c.in-Some.after.now _
    c.in-Some.ensures c.in_ok-keep_date.ensures c.loop-piece.invariant
