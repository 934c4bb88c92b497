use Rattle.std.proofs.Common.{map, sym, ◌∙◌}
use Rattle.rr_events.specs.Segments.{section_in}
use Rattle.rr_zone.specs.Zones.{observances_of}
use Rattle.rr_zone.proofs.PartLemmas.{onto_none, part_passed, part_read}
use Rattle.rr_zone.proofs.zone.observances_of.Goals.{then-part+in_ok-observance+in-Ok+in_ok-put-in-Ok, else-part}
use Rattle.rr_zone.proofs.zone.observances_of.Goals as goal

pub loop-part-init : goal.loop-part-init
loop-part-init c = rw c.new-zone.ensures (onto_none (observances_of (map section_in c.args.parts.now)))

pub loop-part-preserved : goal.loop-part-preserved
loop-part-preserved c = elim c.if-part.branch [
  | then-part+in_ok-observance+in-Ok+in_ok-put-in-Ok w ↦
      part_read c.loop-part.zone c.args.parts.now c.loop-part.part-index _ _ c.loop-part-test.true c.loop-part.invariant w.in-Ok.observance c.if-part.zone
      w.if-part.true (sym w.in-Ok.is ∙ w.in_ok-observance.ensures.value) (w.zone-is ∙ w.in_ok-put-in-Ok.ensures)
  | else-part w ↦
      rw w.zone-is (part_passed c.loop-part.zone c.args.parts.now c.loop-part.part-index _ _ c.loop-part-test.true c.loop-part.invariant w.if-part.false)
]
