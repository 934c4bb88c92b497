use Rattle.std.proofs.Common.{◌≢◌, ◌≤◌, drop, take, pos, ◌+ℤ◌, ◌<ℤ◌}
use Rattle.rr_runs.specs.Runs.{IsCountOf, IsCountedDay, days_of}
use Rattle.rr_runs.proofs.run_days.count_runs.Given as goal

-- the runs of the numbers so far are counted
abbrev pub invariant-loop-index : goal.invariant-loop-index
invariant-loop-index l =
    IsCountOf (days_of l.first (take l.index (drop l.skipped l.row))) l.count
    × (l.count.runs ≢ 0 → l.count.last <ℤ (l.first +ℤ pos l.index))
    × IsCountedDay l.count.last
    × (l.count.runs ≤ l.index)
