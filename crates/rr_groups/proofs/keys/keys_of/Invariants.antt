use Rattle.std.proofs.Common.{◌≡◌, ◌++◌, drop}
use Rattle.rr_groups.proofs.keys.keys_of.Given as goal

-- the other keys are left
abbrev pub invariant-loop-index : goal.invariant-loop-index
invariant-loop-index g l = l.keys.items ++ drop l.index (g.F.EventFile.keys l.file) ≡ g.F.EventFile.keys l.file
