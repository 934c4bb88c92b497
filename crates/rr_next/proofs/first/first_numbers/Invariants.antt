use Rattle.std.proofs.Common.{◌+◌, ◌-◌, ◌*◌, ◌≤◌, length, pos, ◌≤ℤ◌}
use Rattle.rr_model.specs.Moment.{day_part}
use Rattle.rr_next.proofs.TakenLemmas.{IsSoFar}
use Rattle.rr_next.proofs.first.first_numbers.Given as goal

-- what is taken before this number is found, and each one brought it on by one period at most
abbrev pub invariant-loop-end : goal.invariant-loop-end
invariant-loop-end g l = record {
  so_far : IsSoFar (g.A.DaySeq.sketch l.seq) l.low l.end l.at l.found.items;
  from : l.low ≤ℤ l.at;
  few : length l.found.items ≤ l.count;
  near : day_part (g.A.DaySeq.sketch l.seq).kind l.at ≤ℤ pos (1_000_000_001 + length l.found.items * 16_777_218);
}

abbrev pub decreases-loop-end : goal.decreases-loop-end
decreases-loop-end g l = l.count - length l.found.items
