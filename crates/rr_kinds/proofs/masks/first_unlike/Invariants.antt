use Rattle.std.proofs.Common.{◌-◌, ◌≤◌}
use Rattle.rr_kinds.proofs.BitLemmas.{AreAlikeBelow}
use Rattle.rr_kinds.proofs.masks.first_unlike.Given as goal

-- The bits before this one are alike.
abbrev pub invariant-loop-bit : goal.invariant-loop-bit
invariant-loop-bit l = (l.from ≤ l.bit) × AreAlikeBelow l.a.bits l.b.bits l.from l.bit

abbrev pub decreases-loop-bit : goal.decreases-loop-bit
decreases-loop-bit l = 385 - l.bit
