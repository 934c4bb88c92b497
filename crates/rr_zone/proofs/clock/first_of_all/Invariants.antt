use Rattle.std.proofs.Common.{◌≡◌, drop, None}
use Rattle.rr_zone.specs.Tables.{first_of}
use Rattle.rr_zone.proofs.clock.first_of_all.Given as goal

abbrev pub invariant-loop-table : goal.invariant-loop-table
invariant-loop-table l = first_of l.first (drop l.table-index l.tables) ≡ first_of None l.tables
