use Rattle.std.proofs.Common.{rules, FitsSigned, w32, w64, to_z, of_z, to_z-of_z}
use Rattle.rr_zone.proofs.WalkLemmas.{last_seen}
use Rattle.rr_zone.proofs.clock.last_of_all.Goals as goal

pub loop-table-preserved : goal.loop-table-preserved
loop-table-preserved c =
    let table = c.table-item.result in
    let from : FitsSigned w32 table.from = search rules in
    let to : FitsSigned w32 table.to = search rules in
    last_seen c.args.tables.now c.loop-table.table-index table c.loop-table-test.true c.table-item.is _ c.loop-table.last c.with_last-last.result
    c.last_listed-onset.result (to_z w64 (of_z w64 c.args.at)) c.last_listed-onset.ensures
    (rw (to_z-of_z from, to_z-of_z to) at c.with_last-last.ensures) c.loop-table.invariant
