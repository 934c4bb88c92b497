use Rattle.rr_events.proofs.SegmentLemmas.{few-more, read-more}
use Rattle.rr_events.proofs.LineLemmas.{cut-of}
use Rattle.rr_events.proofs.segment.piece_lines.Goals as goal

pub loop-lines-preserved : goal.loop-lines-preserved
loop-lines-preserved c =
    let cut = cut-of c.loop-lines.rest.first c.loop-lines.rest.text.now _ c.in-Some.cut c.in-Some.is c.in_ok-cut.ensures in (
      read-more c.args.piece c.loop-lines.rest (record { text = c.in-Some.cut.after; first = c.in-Some.cut.next }) c.loop-lines.lines c.put.new.self
          c.in-Some.cut.line c.loop-lines.invariant.0 cut c.in_ok-put.ensures.ok,
      few-more c.args.piece c.loop-lines.rest (record { text = c.in-Some.cut.after; first = c.in-Some.cut.next }) c.in-Some.cut.line cut c.loop-lines.invariant.1,
    )
