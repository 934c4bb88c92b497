use Rattle.std.proofs.Common.{◌≡◌, ◌≤◌, ◌-◌}
use Rattle.rr_family.specs.Lasting.{is_occupied}
use Rattle.rr_model.specs.Whole.Count.{count_from}
use Rattle.rr_family.proofs.window.count_occupied.Given as goal

-- the occupied ones of the days so far are counted
abbrev pub invariant-loop-read : goal.invariant-loop-read
invariant-loop-read g l =
    (l.read ≤ l.days) × (l.many ≤ l.read) × (l.many ≡ count_from (is_occupied (g.A.DaySeq.sketch l.seq)) l.first l.read)

abbrev pub decreases-loop-read : goal.decreases-loop-read
decreases-loop-read g l = l.days - l.read
