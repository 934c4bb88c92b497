use Rattle.std.proofs.Common.{◌≡◌, take}
use Rattle.rr_trip.proofs.same.are_same_rules.Given as goal

abbrev pub invariant-loop-i : goal.invariant-loop-i
invariant-loop-i l = take l.i l.a ≡ take l.i l.b
