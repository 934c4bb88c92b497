use Rattle.std.proofs.Common.{◌≡◌, drop, None}
use Rattle.rr_zone.specs.Tables.{last_of}
use Rattle.rr_zone.proofs.clock.last_of_all.Given as goal

abbrev pub invariant-loop-table : goal.invariant-loop-table
invariant-loop-table l = last_of l.last (drop l.table-index l.tables) l.at ≡ last_of None l.tables l.at
