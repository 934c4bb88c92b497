use Rattle.std.proofs.Common.{◌+◌, ◌-◌, ◌*◌, ◌≤◌, length, pos, ◌≤ℤ◌}
use Rattle.rr_model.specs.Bounds.{earliest_near}
use Rattle.rr_model.specs.Moment.{day_part}
use Rattle.rr_differ.proofs.FoundLemmas.{AreSoFar}
use Rattle.rr_differ.proofs.one_kind.differences_from.Given as goal

-- the differences with lesser numbers are found, and each brought the number on by both periods together at most
abbrev pub invariant-loop-next : goal.invariant-loop-next
invariant-loop-next g l = record {
  so_far : AreSoFar (g.A.DaySeq.sketch l.a) (g.B.DaySeq.sketch l.b) l.at l.found.items;
  few : length l.found.items ≤ l.count;
  early : earliest_near ≤ℤ day_part (g.A.DaySeq.sketch l.a).kind l.at;
  near : day_part (g.A.DaySeq.sketch l.a).kind l.at ≤ℤ pos (1_000_000_001 + length l.found.items * 33_554_434);
}

abbrev pub decreases-loop-next : goal.decreases-loop-next
decreases-loop-next g l = l.count - length l.found.items
