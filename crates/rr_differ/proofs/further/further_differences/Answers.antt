use Rattle.rr_differ.proofs.further.further_differences.Goals as goal

pub returns-clause-further : goal.returns-clause-further
returns-clause-further g c =
    c.further_of.ensures.further (g.A.DaySeq.sketch c.args.a.now) (g.B.DaySeq.sketch c.args.b.now) (c.never_end.ensures.no c.if-never_end.false)
    (rw c.deref.ensures.value c.in_ok-found.ensures.first)
