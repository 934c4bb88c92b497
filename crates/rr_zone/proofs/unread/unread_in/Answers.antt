use Rattle.std.proofs.Common.{◌∙◌, map}
use Rattle.rr_zone.specs.Parts.{events_in, part_in}
use Rattle.rr_zone.proofs.UnreadLemmas.{unread_more}
use Rattle.rr_zone.proofs.unread.unread_in.Goals as goal

pub loop-part-preserved : goal.loop-part-preserved
loop-part-preserved c =
    let events = events_in (map part_in c.args.parts.now) in record {
      so_far =
          unread_more c.args.clocks.now events c.args.parts.now c.loop-part.part-index c.part-item.result c.in_ok-unread.unread c.loop-part.found.items
          c.put.new.found.items _ c.loop-part-test.true c.part-item.is
          (rw c.loop-part.invariant.clocks at (c.in_ok-unread.ensures.value events c.requires.series)) c.in_ok-put.ensures c.loop-part.invariant.so_far;
      clocks = c.in_ok-unread.ensures.clocks ∙ c.loop-part.invariant.clocks;
    }
