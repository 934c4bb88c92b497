use Rattle.std.proofs.Common.{◌≡◌, ◌++◌, length, drop}
use Rattle.rr_rrule.proofs.calendar.rules_of.Given as goal

abbrev pub invariant-loop-rule : goal.invariant-loop-rule
invariant-loop-rule l = l.rules ++ drop (length l.yielded) l.fn.items.items ≡ l.fn.items.items
