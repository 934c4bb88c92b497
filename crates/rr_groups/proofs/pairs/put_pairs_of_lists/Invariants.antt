use Rattle.std.proofs.Common.{◌≡◌, ◌++◌, drop}
use Rattle.rr_groups.specs.Pairs.{pairs_of_lists}
use Rattle.rr_groups.proofs.pairs.put_pairs_of_lists.Given as goal

-- the pairs of the other places are left
abbrev pub invariant-loop-place : goal.invariant-loop-place
invariant-loop-place l = l.pairs.items ++ pairs_of_lists (drop l.place l.a) (drop l.place l.b) ≡ l.fn.pairs.items ++ pairs_of_lists l.a l.b
