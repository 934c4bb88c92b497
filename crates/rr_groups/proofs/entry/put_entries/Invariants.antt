use Rattle.std.proofs.Common.{◌≡◌, ◌++◌, drop}
use Rattle.rr_groups.specs.Entries.{entries_from}
use Rattle.rr_groups.proofs.entry.put_entries.Given as goal

-- the entries of the other keys are left
abbrev pub invariant-loop-index : goal.invariant-loop-index
invariant-loop-index l = l.entries.items ++ entries_from l.side l.index (drop l.index l.keys) ≡ l.fn.entries.items ++ entries_from l.side 0 l.keys
