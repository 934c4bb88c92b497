use Rattle.std.proofs.Common.{◌∙◌, map}
use Rattle.rr_zone.specs.Parts.{events_in, part_in}
use Rattle.rr_zone.proofs.LocalLemmas.{part_turned, part_written}
use Rattle.rr_zone.proofs.local.push_parts.Goals as goal

pub loop-part-preserved : goal.loop-part-preserved
loop-part-preserved c =
    let events = events_in (map part_in c.args.parts.now) in record {
      value =
          part_written c.args.clocks.now events c.args.parts.now c.loop-part.part-index c.part-item.result c.loop-part.out.items c.push_part.new.out.items _
          c.loop-part-test.true c.part-item.is (rw c.loop-part.invariant.clocks at (c.in_ok-is_turned.ensures.value events c.requires.series))
          c.loop-part.invariant.value;
      turned =
          part_turned c.args.clocks.now events c.args.parts.now c.loop-part.part-index c.part-item.result c.loop-part.has_zone c.in_ok-is_turned.is_turned
          c.either-has_zone.result _ c.loop-part-test.true c.part-item.is
          (rw c.loop-part.invariant.clocks at (c.in_ok-is_turned.ensures.turned events c.requires.series)) c.either-has_zone.ensures
          c.loop-part.invariant.turned;
      clocks = c.in_ok-is_turned.ensures.clocks ∙ c.loop-part.invariant.clocks;
    }
