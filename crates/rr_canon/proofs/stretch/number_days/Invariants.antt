use Rattle.std.specs.Prelude.{◌-◌, ◌≤◌, IfSome, pos, ◌+ℤ◌}
use Rattle.rr_canon.specs.Kept.{AreKnown, AreNumbersFrom, AreStretchOf, IsEmptyOne}
use Rattle.rr_canon.proofs.stretch.number_days.Given as goal

-- the days before this one were added, what is known of the sequence's sets is so, and what is left are the numbers from this day on
abbrev pub invariant-loop-k : goal.invariant-loop-k
invariant-loop-k g l =
    (l.k ≤ l.count) × AreStretchOf (g.A.DaySeq.sketch l.seq) l.from l.k l.fn.sets l.sets l.days × AreKnown (g.A.DaySeq.sets l.seq) l.sets l.known.known.items
    × AreNumbersFrom (g.A.DaySeq.sets l.seq) (g.A.DaySeq.sketch l.seq) (l.from +ℤ pos l.k) l.rest
    × IfSome l.known.empty (IsEmptyOne (g.A.DaySeq.sets l.seq))

abbrev pub decreases-loop-k : goal.decreases-loop-k
decreases-loop-k g l = l.count - l.k
