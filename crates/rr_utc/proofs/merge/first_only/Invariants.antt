use Rattle.rr_utc.proofs.MergeLemmas.{IsPassed}
use Rattle.rr_utc.proofs.merge.first_only.Given as goal

-- the values before this index are the same in both
abbrev pub invariant-loop-i : goal.invariant-loop-i
invariant-loop-i l = IsPassed l.xs l.ys l.i
