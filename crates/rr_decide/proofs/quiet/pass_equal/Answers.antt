use Rattle.std.proofs.Common.{inl, inr, arith}
use Rattle.std.proofs.lemmas.Bool.{cases_lt}
use Rattle.rr_decide.proofs.quiet.pass_equal.Goals as goal

pub loop-at-init : goal.loop-at-init
loop-at-init c = (omega arith, omega arith, λ k low high. absurd (omega arith))

pub loop-at-preserved : goal.loop-at-preserved
loop-at-preserved c = (
  omega (arith, c.min-next.ensures),
  omega (arith, c.min-next.ensures),
  λ k low high.
      elim (cases_lt k c.loop-at.at) [
        | inl l ↦ c.loop-at.invariant.2 k low l
        | inr g ↦ c.are_equal_below.ensures c.if-not-are_equal_below.false k g high
      ],
)
