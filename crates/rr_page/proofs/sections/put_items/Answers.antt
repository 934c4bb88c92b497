use Rattle.std.proofs.Common.{refl}
use Rattle.rr_page.specs.Sections.{item_if, items_html}
use Rattle.rr_page.proofs.PutLemmas.{all_put, one_part}
use Rattle.rr_page.proofs.sections.put_items.Goals as goal

pub loop-line-preserved : goal.loop-line-preserved
loop-line-preserved c =
    one_part (items_html c.args.class) (item_if c.args.class) (λ x xs. refl) c.loop-line.page c.put_item_if.new.page _ c.args.lines.now
    c.loop-line.line-index c.line-item.result _ c.loop-line-test.true c.line-item.is c.loop-line.invariant c.in_ok-put_item_if.ensures

pub returns : goal.returns
returns c =
    all_put (items_html c.args.class) c.loop-line.page _ c.args.lines.now c.loop-line.line-index refl c.loop-line-test.false c.loop-line.invariant
