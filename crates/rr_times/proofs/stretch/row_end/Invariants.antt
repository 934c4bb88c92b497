use Rattle.std.specs.Prelude.{◌≡◌, ◌+◌, ◌-◌, ◌<◌, ◌≤◌, drop, get_or, length}
use Rattle.rr_model.specs.Sets.Stretches.{row_after}
use Rattle.rr_times.proofs.stretch.row_end.Given as goal

-- the row so far goes on with that of the rest
abbrev pub invariant-loop-last : goal.invariant-loop-last
invariant-loop-last l =
    (l.from + row_after (get_or l.seconds l.from 0) l.step (drop (l.from + 1) l.seconds)
    ≡ l.last + row_after (get_or l.seconds l.last 0) l.step (drop (l.last + 1) l.seconds))
    × (l.from ≤ l.last)
    × (l.last < length l.seconds)

abbrev pub decreases-loop-last : goal.decreases-loop-last
decreases-loop-last l = length l.seconds - l.last
