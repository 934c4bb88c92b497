use Rattle.std.proofs.Common.{◌≤◌, ◌-◌, ℤ, pos, ◌+ℤ◌, ◌≤ℤ◌, ◌<ℤ◌}
use Rattle.rr_family.specs.Walks.{IsAtSecond}
use Rattle.rr_family.proofs.window.has_one_second.Given as goal

-- each day so far has the second alone, or nothing
abbrev pub invariant-loop-read : goal.invariant-loop-read
invariant-loop-read g l =
    (l.read ≤ l.days) × ((d : ℤ) → l.first ≤ℤ d → d <ℤ (l.first +ℤ pos l.read) → IsAtSecond (g.A.DaySeq.sketch l.seq) l.second d)

abbrev pub decreases-loop-read : goal.decreases-loop-read
decreases-loop-read g l = l.days - l.read
