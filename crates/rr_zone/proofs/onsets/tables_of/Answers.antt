use Rattle.std.proofs.Common.{pos, ◌+ℤ◌, w64, to_z, of_z, to_z-of_z}
use Rattle.std.proofs.lemmas.List.{take_all}
use Rattle.rr_zone.specs.Tables.{IsTableOf}
use Rattle.rr_zone.proofs.WalkLemmas.{zip_more}
use Rattle.rr_zone.proofs.onsets.tables_of.Goals as goal

pub loop-observance-preserved : goal.loop-observance-preserved
loop-observance-preserved c =
    rw c.in_ok-push.ensures.items
    (zip_more (IsTableOf (to_z w64 (of_z w64 c.args.last) +ℤ pos 1)) c.args.zone.now c.loop-observance.tables.items c.loop-observance.observance-index
    c.observance-item.result c.in_ok-table_of.field-0 c.loop-observance-test.true c.observance-item.is c.loop-observance.invariant c.in_ok-table_of.ensures)

pub returns : goal.returns
returns c = record {
  each = rw (take_all c.loop-observance.observance-index c.args.zone.now c.loop-observance-test.false, to_z-of_z c.ranges.last) at c.loop-observance.invariant;
  day = c.requires.last;
}
