use Rattle.rr_trip.proofs.PartLemmas.{AreUpTo}
use Rattle.rr_trip.proofs.parts.parts_of.Given as goal

-- the parts so far are those of the groups before the rest
abbrev pub invariant-loop-group : goal.invariant-loop-group
invariant-loop-group l = AreUpTo l.fn.groups.items l.group-iterator.rest.items l.parts.items
