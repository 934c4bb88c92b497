use Rattle.rr_events.proofs.LineLemmas.{cut-of, no-cut}
use Rattle.rr_events.proofs.SegmentLemmas.{few-more}
use Rattle.rr_zone.proofs.FullLemmas.{all_put, one_put}
use Rattle.rr_zone.proofs.full.full_lines.Goals as goal

pub loop-lines-preserved : goal.loop-lines-preserved
loop-lines-preserved c =
    let rest = c.loop-lines.rest in
    let cut = cut-of rest.first rest.text.now _ c.in-Some.cut c.in-Some.is c.in_ok-cut.ensures in
    record {
      same =
          one_put c.loop-lines.lines c.put_line.new.lines _ rest.first rest.text.now c.in-Some.cut.line c.in-Some.cut.after.now c.in-Some.cut.next cut
          c.in_ok-put_line.ensures c.loop-lines.invariant.same;
      few = few-more c.args.piece rest (record { text = c.in-Some.cut.after; first = c.in-Some.cut.next }) c.in-Some.cut.line cut c.loop-lines.invariant.few;
    }

pub returns : goal.returns
returns c =
    let rest = c.loop-lines.rest in
    all_put c.loop-lines.lines _ rest.first rest.text.now (no-cut rest.first rest.text.now _ c.in_default.is c.in_ok-cut.ensures) c.loop-lines.invariant.same
