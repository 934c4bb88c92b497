use Rattle.std.proofs.Common.{◌≡◌, ◌++◌, drop}
use Rattle.rr_groups.specs.Entries.{indexes_in}
use Rattle.rr_groups.proofs.entry.entry_indexes.Given as goal

-- those of the other entries are left
abbrev pub invariant-loop-entry : goal.invariant-loop-entry
invariant-loop-entry l = l.indexes.items ++ indexes_in (drop l.entry-index l.entries) ≡ indexes_in l.entries
