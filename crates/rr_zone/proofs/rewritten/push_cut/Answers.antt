use Rattle.rr_events.proofs.SegmentLemmas.{after-shorter}
use Rattle.rr_zone.proofs.rewritten.push_cut.Goals as goal

pub before-bytes-requires : goal.before-bytes-requires
before-bytes-requires c =
    after-shorter c.args.piece.first c.args.piece.text.now c.args.cut.now.line c.args.cut.now.after.now c.args.cut.now.next c.requires
