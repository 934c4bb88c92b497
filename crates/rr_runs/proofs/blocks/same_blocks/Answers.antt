use Rattle.std.proofs.Common.{inl, inr, arith}
use Rattle.std.proofs.lemmas.Bool.{cases_lt}
use Rattle.rr_runs.proofs.blocks.same_blocks.Goals as goal

pub loop-at-preserved : goal.loop-at-preserved
loop-at-preserved g c = (
  omega arith,
  λ k high.
      elim (cases_lt k c.loop-at.at) [
        | inl l ↦ c.loop-at.invariant.1 k l
        | inr m ↦ c.is_block_of.ensures c.if-not-is_block_of.false k m high
      ],
)
