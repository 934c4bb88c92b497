use Rattle.std.proofs.Common.{◌≡◌, ◌≤◌, length, pos, ◌+ℤ◌}
use Rattle.rr_family.specs.Lasting.{is_occupied}
use Rattle.rr_family.specs.Sorts.{many_sorts, sort_of_day}
use Rattle.rr_find.specs.Counted.{IsTallied}
use Rattle.rr_find.proofs.tallies.counts_all_days.Given as goal

-- the day is the next one, and those before it are counted
abbrev pub invariant-loop-k : goal.invariant-loop-k
invariant-loop-k g l =
    (l.day.number ≡ l.start.number +ℤ pos l.k) × (many_sorts l.kind ≤ length l.occupied) × (many_sorts l.kind ≤ length l.free)
    × IsTallied l.occupied l.free (sort_of_day l.kind l.interval l.first) (is_occupied (g.A.DaySeq.sketch l.seq)) l.first l.k
