use Rattle.std.proofs.lemmas.Result.{IfOk-weaker}
use Rattle.rr_trip.proofs.SaidLemmas.{refused_with}
use Rattle.rr_trip.proofs.pair.judged_with.Goals as goal

pub returns-in-Err : goal.returns-in-Err
returns-in-Err g c =
    IfOk-weaker c.refusal_on.result _ _
    (λ judged h. refused_with c.args.a (g.F.EventFile.stated c.args.file.now c.args.b.now) c.in-Err.fault judged c.in-Err.ensures.refused h)
    c.refusal_on.ensures
