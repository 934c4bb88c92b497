use Rattle.std.proofs.Common.{take, pos, ◌+ℤ◌}
use Rattle.rr_zone.specs.Tables.{AreTablesOf}
use Rattle.rr_zone.proofs.onsets.tables_of.Given as goal

abbrev pub invariant-loop-observance : goal.invariant-loop-observance
invariant-loop-observance l = AreTablesOf (l.last +ℤ pos 1) (take l.observance-index l.zone) l.tables.items
