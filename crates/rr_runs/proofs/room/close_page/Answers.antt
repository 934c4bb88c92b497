use Rattle.std.proofs.Common.{List, ℕ, ◌++◌, ◌∙◌, sym, ap, subst, arith}
use Rattle.rr_runs.specs.Pages.{IsPaged, row_of_pages}
use Rattle.rr_runs.proofs.PagesLemmas.{all_closed, closed_is_paged, is_paged_grown, paged_in_grown}
use Rattle.rr_runs.proofs.room.close_page.Goals as goal

pub returns-in_err-put_page-clause-paged : goal.returns-in_err-put_page-clause-paged
returns-in_err-put_page-clause-paged c =
    subst (λ (l : List ℕ). IsPaged c.put_page.new.pool.items l c.args.rest.now.items) (sym c.in_err-put_page.ensures.err)
    (is_paged_grown c.args.pool.now.items c.put_page.new.pool.items c.args.pages.now.items c.args.rest.now.items c.requires.paged c.put_page.ensures.grown)

pub returns-in_err-put_page-clause-same : goal.returns-in_err-put_page-clause-same
returns-in_err-put_page-clause-same c =
    ap (λ (l : List ℕ). row_of_pages c.put_page.new.pool.items l ++ c.args.rest.now.items) c.in_err-put_page.ensures.err
    ∙ paged_in_grown c.args.pool.now.items c.put_page.new.pool.items c.args.pages.now.items c.args.rest.now.items c.requires.paged c.put_page.ensures.grown

pub returns-clause-paged : goal.returns-clause-paged
returns-clause-paged c =
    closed_is_paged c.put_page.new.pool.items c.put_page.new.pages.items c.clear.new.self.items c.put_page.ensures.stand
    (omega (arith, c.in_ok-put_page.ensures.many)) c.clear.ensures.items

pub returns-clause-same : goal.returns-clause-same
returns-clause-same c =
    all_closed c.args.pool.now.items c.put_page.new.pool.items c.args.pages.now.items c.put_page.new.pages.items c.args.rest.now.items
    c.clear.new.self.items (rw c.as_slice.ensures.value at c.in_ok-put_page.ensures.value) c.clear.ensures.items
