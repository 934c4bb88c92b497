use Rattle.std.proofs.Common.{arith}
use Rattle.std.proofs.lemmas.Int.{ints}
use Rattle.std.proofs.lemmas.Result.{IfOk-weaker}
use Rattle.rr_days.proofs.BackLemmas.{back}
use Rattle.rr_fold.proofs.WholeFoldLemmas.{judged_moments}
use Rattle.rr_fold.proofs.folded.fold.Goals as goal

pub returns-in-Ok-clause-judged : goal.returns-in-Ok-clause-judged
returns-in-Ok-clause-judged c =
    let n = c.in-Ok.ensures.near in
    let s = back c.in-Ok.settled.day (omega (arith, ints, n.0)) (omega (arith, ints, n.1)) in
    judged_moments c.args.series.now c.requires.few c.in-Ok.settled.day c.in-Ok.ensures.settled c.in-Ok.ensures.refused _ c.folded_to.result
    (rw s at c.folded_to.ensures.refused)

pub returns-in-Ok-clause-near : goal.returns-in-Ok-clause-near
returns-in-Ok-clause-near c =
    let n = c.in-Ok.ensures.near in
    let s = back c.in-Ok.settled.day (omega (arith, ints, n.0)) (omega (arith, ints, n.1)) in
    IfOk-weaker c.folded_to.result _ _ (λ f e. omega (arith, ints, n.1, e, s)) c.folded_to.ensures.settled
