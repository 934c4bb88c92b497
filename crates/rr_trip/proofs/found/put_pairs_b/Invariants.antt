use Rattle.std.proofs.Common.{◌≡◌, drop}
use Rattle.rr_trip.specs.Found.{with_pairs_b}
use Rattle.rr_trip.proofs.found.put_pairs_b.Given as goal

-- the other pairs are left
abbrev pub invariant-loop-pair : goal.invariant-loop-pair
invariant-loop-pair l = with_pairs_b l.likeness (drop l.pair-index l.pairs) l.found ≡ with_pairs_b l.likeness l.pairs l.fn.found
