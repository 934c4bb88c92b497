use Rattle.std.proofs.Common.{FitsSigned, w64, subst, ◌≤◌, ◌∙◌}
use Rattle.std.proofs.lemmas.Int.{to_z-of_z}
use Rattle.rr_utc.proofs.LastLemmas.{at_most, free_for_ever}
use Rattle.rr_utc.proofs.end.is_finite.Goals as goal

pub returns : goal.returns
returns g c test =
    let fits : FitsSigned w64 c.settled.result = record { sfits = c.settled.type_inv } in
    free_for_ever (g.A.DaySeq.sketch c.args.seq.now) (g.met.A.DaySeq.bounded c.args.seq.now).valid _ c.free_days.result
    (to_z-of_z w64 c.settled.result fits ∙ c.settled.ensures.value) (subst (λ z. z ≤ c.free_days.result) c.period.ensures.value (at_most _ _ test)) c.free_days.ensures
