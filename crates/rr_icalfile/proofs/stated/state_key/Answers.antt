use Rattle.std.proofs.Common.{map, refl, ◌∙◌}
use Rattle.std.proofs.lemmas.Result.{err_from_is_err_and}
use Rattle.rr_events.specs.Finding.{lines_in}
use Rattle.rr_icalfile.specs.Calendar.{texts_at}
use Rattle.rr_icalfile.proofs.StatedLemmas.{not_gathered, not_read, was_read}
use Rattle.rr_icalfile.proofs.stated.state_key.Goals as goal

pub returns-in_err-events : goal.returns-in_err-events
returns-in_err-events c =
    let p = err_from_is_err_and c.from_residual-in_err-events.result c.from_residual-in_err-events.ensures.1 in
    rw (p.1, p.2) (not_gathered c.args.offset c.args.lenient (texts_at (map lines_in c.args.pieces.now) c.args.indexes.now) c.in_ok-listed.listed.items
    c.in_ok-listed.ensures c.in_err-events.field-0.0 c.in_err-events.ensures)

pub returns-in_err-read : goal.returns-in_err-read
returns-in_err-read c =
    let p = err_from_is_err_and c.from_residual-in_err-read.result c.from_residual-in_err-read.ensures.1 in
    rw (p.1, p.2) (not_read c.args.offset c.args.lenient (texts_at (map lines_in c.args.pieces.now) c.args.indexes.now) c.in_ok-listed.listed.items
    c.in_ok-listed.ensures c.in_ok-events.events c.in_ok-events.ensures c.in_err-read.field-0.0 c.in_err-read.ensures)

pub returns : goal.returns
returns c =
    was_read c.args.offset c.args.lenient (texts_at (map lines_in c.args.pieces.now) c.args.indexes.now) c.in_ok-listed.listed.items c.in_ok-listed.ensures
    c.in_ok-events.events c.in_ok-events.ensures c.in_ok-read.read _ c.in_ok-read.ensures refl c.marks_of_day.ensures c.in_ok-lengths.ensures c.first_of-place.ensures
    (c.into_items.ensures ∙ c.in_ok-zones.ensures)
