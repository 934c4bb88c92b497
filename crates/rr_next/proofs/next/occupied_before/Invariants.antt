use Rattle.std.proofs.Common.{◌≡◌, [], ℤ, nat_abs, ◌-ℤ◌, ◌≤ℤ◌, ◌<ℤ◌}
use Rattle.rr_model.specs.Sets.Sketch.{times_on}
use Rattle.rr_next.proofs.next.occupied_before.Given as goal

-- the days before this one are free
abbrev pub invariant-loop-day : goal.invariant-loop-day
invariant-loop-day g l = (l.from ≤ℤ l.day) × ((d : ℤ) → l.from ≤ℤ d → d <ℤ l.day → times_on (g.A.DaySeq.sketch l.seq) d ≡ [])

abbrev pub decreases-loop-day : goal.decreases-loop-day
decreases-loop-day g l = nat_abs (l.end -ℤ l.day)
