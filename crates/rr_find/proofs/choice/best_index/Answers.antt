use Rattle.std.proofs.Common.{arith, inl, inr, refl, sym}
use Rattle.rr_find.proofs.BestLemmas.{best_zero}
use Rattle.rr_find.proofs.ChoiceLemmas.{best_next}
use Rattle.rr_find.proofs.choice.best_index.Goals as goal
use Rattle.rr_find.proofs.choice.best_index.Goals.{then-days-most, else-days-most}

pub loop-index-init : goal.loop-index-init
loop-index-init c = (sym (best_zero _), refl)

pub loop-index-preserved : goal.loop-index-preserved
loop-index-preserved c =
    best_next _ c.loop-index.index c.loop-index.best c.if-days-most.best c.loop-index.most c.if-days-most.most c.gain_of_item-days.result
    c.loop-index.invariant.0 c.loop-index.invariant.1 c.gain_of_item-days.ensures
    (elim c.if-days-most.branch [
      | then-days-most w ↦ inl (omega (arith, w.if-days-most), w.best-is, w.most-is)
      | else-days-most w ↦ inr (omega (arith, w.if-days-most), w.best-is, w.most-is)
    ])
