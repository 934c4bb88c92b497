use Rattle.std.proofs.Common.{◌≡◌, ◌≤◌, ℤ, drop, length}
use Rattle.rr_runs.specs.Runs.{days_of}
use Rattle.rr_runs.proofs.run_days.fill.Given as goal

-- the row has the same days, and as many numbers
abbrev pub invariant-loop-k : goal.invariant-loop-k
invariant-loop-k l =
    ((day : ℤ) → days_of day (drop l.skipped l.row) ≡ days_of day (drop l.skipped l.initial.row))
    × (length l.row ≡ l.k)
    × (length l.initial.row ≤ l.k)
