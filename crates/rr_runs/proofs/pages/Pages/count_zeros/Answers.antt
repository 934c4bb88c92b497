use Rattle.std.proofs.Common.{◌≡◌, ◌+◌, ◌*◌, arith}
use Rattle.rr_runs.proofs.PagesLemmas.{zeros_go_on}
use Rattle.rr_runs.proofs.pages.Pages.count_zeros.Goals as goal

pub returns-then-pages-eq0 : goal.returns-then-pages-eq0
returns-then-pages-eq0 c =
    zeros_go_on c.args.self.now c.args.index c.zeros_in_piece-here.result (c.zero_pages_from-pages.result * 63) c.zeros_in_piece-here.ensures
    c.zero_pages_from-pages.ensures

pub returns : goal.returns
returns c =
    let here = c.zeros_in_piece-here in
    let pages = c.zero_pages_from-pages.result * 63 in
    let at : (c.args.index + here.result) + pages ≡ c.args.index + (here.result + pages) = omega arith in
    zeros_go_on c.args.self.now c.args.index (here.result + pages) c.zeros_in_piece.result
    (zeros_go_on c.args.self.now c.args.index here.result pages here.ensures c.zero_pages_from-pages.ensures) (rw at at c.zeros_in_piece.ensures)
