use Rattle.std.proofs.Common.{w64, to_z-of_z, FitsSigned, subst}
use Rattle.std.proofs.lemmas.List.{take_all}
use Rattle.rr_offsets.specs.Past.{IsOver}
use Rattle.rr_offsets.proofs.PastLemmas.{one_observance}
use Rattle.rr_offsets.proofs.past.past_of.Goals as goal

pub loop-observance-preserved : goal.loop-observance-preserved
loop-observance-preserved c =
    let new = c.after_observance-last.result in
    let fits : FitsSigned w64 new = record { sfits = c.after_observance-last.type_inv } in
    let e = c.after_observance-last.ensures in
    let here = subst (IsOver new) c.observance-item.is e.over in
    rw (to_z-of_z fits) (record {
      moment = e.past.moment;
      over = one_observance _ new e.past.from c.args.zone.now c.loop-observance.observance-index c.observance-item.result c.loop-observance-test.true
          c.loop-observance.invariant.over here;
    })

pub returns-clause-over : goal.returns-clause-over
returns-clause-over c =
    rw (take_all c.loop-observance.observance-index c.args.zone.now c.loop-observance-test.false) at c.loop-observance.invariant.over
