use Rattle.std.proofs.Common.{inl, inr, arith}
use Rattle.std.proofs.lemmas.Bool.{cases_lt}
use Rattle.rr_decide.proofs.long.AlikeNumbers.pass_blocks.Goals as goal

pub loop-at-init : goal.loop-at-init
loop-at-init c = (omega arith, omega arith, λ k low high. absurd (omega arith))

pub loop-at-preserved : goal.loop-at-preserved
loop-at-preserved c = (
  omega arith,
  omega arith,
  λ k low high.
      elim (cases_lt k c.loop-at.at) [
        | inl l ↦ c.loop-at.invariant.2 k low l
        | inr g ↦ c.has_block.ensures c.if-not-has_block.false k g high
      ],
)
