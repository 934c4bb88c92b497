use Rattle.rr_events.proofs.LineLemmas.{cut-of}
use Rattle.rr_zone.proofs.FullLemmas.{number_here}
use Rattle.rr_zone.proofs.full.first_number.Goals as goal

pub returns-in-Some : goal.returns-in-Some
returns-in-Some c =
    number_here c.args.piece.first c.args.piece.text.now c.in-Some.cut.line c.in-Some.cut.after.now c.in-Some.cut.next
    (cut-of c.args.piece.first c.args.piece.text.now _ c.in-Some.cut c.in-Some.is c.in_ok-cut.ensures)
