use Rattle.std.proofs.Common.{ℕ, ◌+◌, refl, get_or}
use Rattle.rr_page.specs.Month.{cell_html, cells_html}
use Rattle.rr_page.proofs.PutLemmas.{all_put, one_put}
use Rattle.rr_page.proofs.month.put_cells.Goals as goal

pub loop-days-preserved : goal.loop-days-preserved
loop-days-preserved c =
    one_put (cells_html c.args.weekday) (cell_html c.args.weekday) (λ (n : ℕ) (sign : ℕ). n + 1) (λ n x xs. refl) c.loop-days.page c.put_cell.new.page _
    c.args.signs.now c.loop-days.days (get_or c.args.signs.now c.loop-days.days 0) 0 c.loop-days.days _ c.loop-days-test.true refl refl
    c.loop-days.invariant c.in_ok-put_cell.ensures

pub returns : goal.returns
returns c = all_put (cells_html c.args.weekday c.loop-days.days) c.loop-days.page _ c.args.signs.now c.loop-days.days refl c.loop-days-test.false c.loop-days.invariant
