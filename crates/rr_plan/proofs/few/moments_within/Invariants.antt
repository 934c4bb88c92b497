use Rattle.std.specs.Prelude.{int_lt, length, pos, ◌+ℤ◌, ◌≤◌}
use Rattle.rr_model.specs.Rising.{Rises}
use Rattle.rr_plan.specs.Few.{HoldsBefore}
use Rattle.rr_plan.proofs.few.moments_within.Given as goal

-- the occurrences of the days so far
abbrev pub invariant-loop-k : goal.invariant-loop-k
invariant-loop-k g l =
    HoldsBefore (g.A.DaySeq.sketch l.seq) (l.first +ℤ pos l.k) l.moments × Rises int_lt l.moments × (length l.moments ≤ l.most)
