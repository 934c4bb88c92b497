use Rattle.rr_page.proofs.PageLemmas.{line_put, lines_put, none_put}
use Rattle.rr_page.proofs.print.put_lines.Goals as goal

pub loop-line-init : goal.loop-line-init
loop-line-init g c = none_put (g.A.EventFile.stated c.args.a.now) (g.B.EventFile.stated c.args.b.now) c.args.lines.now c.args.page.now

pub loop-line-preserved : goal.loop-line-preserved
loop-line-preserved g c =
    line_put (g.A.EventFile.stated c.args.a.now) (g.B.EventFile.stated c.args.b.now) c.args.lines.now c.args.page.now c.loop-line.line-index
    c.loop-line.left _ c.line-item.result _ c.loop-line.page c.put_line_if.new.page c.loop-line-test.true c.line-item.is c.left_behind-left.ensures
    c.loop-line.invariant c.in_ok-put_line_if.ensures

pub returns : goal.returns
returns g c =
    lines_put (g.A.EventFile.stated c.args.a.now) (g.B.EventFile.stated c.args.b.now) c.args.lines.now c.args.page.now c.loop-line.line-index
    c.loop-line.left c.loop-line.page c.loop-line-test.false c.loop-line.invariant
