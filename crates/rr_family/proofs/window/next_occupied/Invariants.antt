use Rattle.std.proofs.Common.{◌≡◌, ◌≤◌, ◌-◌, false, ℤ, pos, ◌+ℤ◌, ◌≤ℤ◌, ◌<ℤ◌}
use Rattle.rr_family.specs.Lasting.{is_occupied}
use Rattle.rr_family.proofs.window.next_occupied.Given as goal

-- no day so far is occupied
abbrev pub invariant-loop-passed : goal.invariant-loop-passed
invariant-loop-passed g l =
    (l.passed ≤ l.days) × ((d : ℤ) → l.from ≤ℤ d → d <ℤ (l.from +ℤ pos l.passed) → is_occupied (g.A.DaySeq.sketch l.seq) d ≡ false)

abbrev pub decreases-loop-passed : goal.decreases-loop-passed
decreases-loop-passed g l = l.days - l.passed
