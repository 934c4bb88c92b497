use Rattle.std.proofs.Common.{◌≡◌, ◌++◌, drop}
use Rattle.rr_groups.specs.Pairs.{pairs_in}
use Rattle.rr_groups.proofs.pairs.pairs_of_groups.Given as goal

-- the pairs of the other keys are left
abbrev pub invariant-loop-group : goal.invariant-loop-group
invariant-loop-group l = l.pairs.items ++ pairs_in l.is_only (drop l.group-index l.groups) ≡ pairs_in l.is_only l.groups
