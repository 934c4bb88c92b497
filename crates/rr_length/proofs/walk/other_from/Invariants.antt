use Rattle.std.proofs.Common.{◌+◌, length}
use Rattle.rr_length.specs.Lengths.{occurs_in}
use Rattle.rr_length.specs.Walk.{IsAsked, lengths_of}
use Rattle.rr_length.proofs.WalkLemmas.{AreLeft}
use Rattle.rr_length.proofs.walk.other_from.Given as goal

-- what is left says the lengths from this moment on, and no occurrence before it has two
abbrev pub invariant-loop-date : goal.invariant-loop-date
invariant-loop-date g l = record {
  asked : IsAsked (g.S.DaySeq.sketch l.sequence) l.at;
  left : AreLeft (occurs_in (g.S.DaySeq.sketch l.sequence)) (lengths_of l.usual.a l.dated_a) (lengths_of l.usual.b l.dated_b) l.from l.at l.of_a l.of_b;
}

abbrev pub decreases-loop-date : goal.decreases-loop-date
decreases-loop-date g l = length l.of_a + length l.of_b
