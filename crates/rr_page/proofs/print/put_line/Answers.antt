use Rattle.rr_page.proofs.DetailLemmas.{printable_further}
use Rattle.rr_page.proofs.print.put_line.Goals as goal

pub put_event-requires-clause-further : goal.put_event-requires-clause-further
put_event-requires-clause-further g c =
    printable_further (g.A.EventFile.stated c.args.a.now) (g.B.EventFile.stated c.args.b.now) c.args.line.now c.in_ok-detail.detail c.in_ok-detail.ensures
