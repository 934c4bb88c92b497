use Rattle.std.proofs.Common.{◌∙◌, sym, ℕ, Bool, arith}
use Rattle.rr_model.proofs.CountLemmas.{count_seconds-zero, below_more, below_same}
use Rattle.rr_parts.specs.Numbers.{number_allowed}
use Rattle.rr_setpos.proofs.select.nth_allowed.Goals as goal
use Rattle.rr_setpos.proofs.select.nth_allowed.Goals.{then-allows_filled+else-left-eq0, else-allows_filled}

pub loop-n-init : goal.loop-n-init
loop-n-init c = omega (arith, count_seconds-zero (λ m. number_allowed c.args.is_wanted c.args.part.now c.args.own m))

pub loop-n-preserved : goal.loop-n-preserved
loop-n-preserved c =
    let test : ℕ → Bool = λ m. number_allowed c.args.is_wanted c.args.part.now c.args.own m in
    elim c.if-allows_filled.branch [
      | then-allows_filled+else-left-eq0 w ↦ omega
          (arith, w.left-is, w.if-left-eq0.false, c.loop-n.invariant, below_more test c.loop-n.n (sym c.allows_filled.ensures ∙ w.if-allows_filled.true))
      | else-allows_filled w ↦ omega (arith, w.left-is, c.loop-n.invariant, below_same test c.loop-n.n (sym c.allows_filled.ensures ∙ w.if-allows_filled.false))
    ]
