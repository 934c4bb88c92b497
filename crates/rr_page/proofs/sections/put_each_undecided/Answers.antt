use Rattle.std.proofs.Common.{refl}
use Rattle.rr_page.specs.Class.{left_behind}
use Rattle.rr_page.specs.Sections.{each_undecided_html, undecided_if}
use Rattle.rr_page.specs.declared.class.Class.TheVariants.{Undecided}
use Rattle.rr_page.proofs.PutLemmas.{all_put, one_put}
use Rattle.rr_page.proofs.sections.put_each_undecided.Goals as goal

pub loop-line-preserved : goal.loop-line-preserved
loop-line-preserved c =
    one_put each_undecided_html undecided_if (left_behind Undecided) (λ n x xs. refl) c.loop-line.page c.put_undecided_if.new.page _ c.args.lines.now
    c.loop-line.line-index c.line-item.result _ c.loop-line.left _ c.loop-line-test.true c.line-item.is c.left_behind-left.ensures c.loop-line.invariant
    c.in_ok-put_undecided_if.ensures

pub returns : goal.returns
returns c =
    all_put (each_undecided_html c.loop-line.left) c.loop-line.page _ c.args.lines.now c.loop-line.line-index refl c.loop-line-test.false
    c.loop-line.invariant
