use Rattle.std.proofs.Common.{refl}
use Rattle.rr_page.specs.Month.{each_month_html, month_html}
use Rattle.rr_page.proofs.PutLemmas.{all_put, one_part}
use Rattle.rr_page.proofs.month.put_each_month.Goals as goal

pub loop-month-preserved : goal.loop-month-preserved
loop-month-preserved c =
    one_part each_month_html month_html (λ x xs. refl) c.loop-month.page c.put_month.new.page _ c.args.months.now c.loop-month.month-index
    c.month-item.result _ c.loop-month-test.true c.month-item.is c.loop-month.invariant c.in_ok-put_month.ensures

pub returns : goal.returns
returns c =
    all_put each_month_html c.loop-month.page _ c.args.months.now c.loop-month.month-index refl c.loop-month-test.false c.loop-month.invariant
