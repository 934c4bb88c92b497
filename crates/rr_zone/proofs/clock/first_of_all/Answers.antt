use Rattle.std.proofs.Common.{rules, FitsSigned, w32, w64, to_z-of_z}
use Rattle.rr_zone.proofs.WalkLemmas.{first_seen}
use Rattle.rr_zone.proofs.clock.first_of_all.Goals as goal

pub loop-table-preserved : goal.loop-table-preserved
loop-table-preserved c =
    let table = c.table-item.result in
    let first : FitsSigned w64 table.first = search rules in
    let from : FitsSigned w32 table.from = search rules in
    let to : FitsSigned w32 table.to = search rules in
    first_seen c.args.tables.now c.loop-table.table-index table c.loop-table-test.true c.table-item.is _ c.loop-table.first c.earlier.result
    (rw (to_z-of_z first, to_z-of_z from, to_z-of_z to) at c.earlier.ensures) c.loop-table.invariant
