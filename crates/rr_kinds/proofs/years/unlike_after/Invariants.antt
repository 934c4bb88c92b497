use Rattle.std.proofs.Common.{pos, ◌+ℤ◌}
use Rattle.rr_expand.specs.Years.{filling_of}
use Rattle.rr_kinds.specs.Walked.{AreWalked}
use Rattle.rr_kinds.proofs.years.unlike_after.Given as goal

-- The years before this one are walked.
abbrev pub invariant-loop-next : goal.invariant-loop-next
invariant-loop-next l = AreWalked (filling_of l.a l.start_day) (filling_of l.b l.start_day) (l.fn.year +ℤ pos 1) l.next l.seen
