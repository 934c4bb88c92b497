use Rattle.std.proofs.Common.{drop}
use Rattle.rr_length.proofs.OrderLemmas.{AreMerged}
use Rattle.rr_length.proofs.order.longest_of_each.Given as goal

-- the longest of each moment so far are found, but for the last, which may still grow
abbrev pub invariant-loop-one : goal.invariant-loop-one
invariant-loop-one l = AreMerged l.dated l.found.items l.last (drop l.one-index l.rest)
