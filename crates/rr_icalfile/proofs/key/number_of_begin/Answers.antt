use Rattle.rr_events.proofs.LineLemmas.{cut-of, no-cut}
use Rattle.rr_icalfile.proofs.KeyLemmas.{number-first, number-none}
use Rattle.rr_icalfile.proofs.key.number_of_begin.Goals as goal

pub returns-in-Some : goal.returns-in-Some
returns-in-Some c =
    let piece = c.args.piece in
    let cut = cut-of piece.first piece.text.now _ c.in-Some.cut c.in-Some.is c.in_ok-cut.ensures in
    number-first piece.first piece.text.now c.in-Some.cut.line c.in-Some.cut.after.now c.in-Some.cut.next cut

pub returns-in-None : goal.returns-in-None
returns-in-None c =
    let piece = c.args.piece in number-none piece.first piece.text.now (no-cut piece.first piece.text.now _ c.in-None.is c.in_ok-cut.ensures)
