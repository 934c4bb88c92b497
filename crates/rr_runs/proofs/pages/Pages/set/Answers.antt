use Rattle.std.proofs.Common.{List, ℕ, ◌*◌, ◌++◌, sym, ap, ◌∙◌, arith}
use Rattle.rr_runs.specs.Pages.{row_of_pages}
use Rattle.rr_runs.proofs.PagesLemmas.{length_numbers, on_error, paged_in_grown, set_in_rest, set_in_row}
use Rattle.rr_runs.proofs.pages.Pages.set.Goals as goal

pub index_mut-requires : goal.index_mut-requires
index_mut-requires c =
    let all =
    length_numbers c.self.inside.pool.items c.self.inside.pages.items c.self.inside.rest.items c.args.self.now (sym c.self.view_is) c.self.invariant in
    omega (arith, all, c.self.inside.rest.ok.0, c.requires)

pub returns-then-index-paged-clause-ok : goal.returns-then-index-paged-clause-ok
returns-then-index-paged-clause-ok c =
    set_in_rest c.self.inside.pool.items c.self.inside.pages.items c.self.inside.rest.items c.args.self.now (sym c.self.view_is) c.self.invariant c.args.index
    c.args.number (c.len-paged.result * 63) (omega (arith, c.len-paged.ensures, c.self.inside.pages.ok.0)) (omega (arith, c.if-index-paged.true))

pub returns-in_err-set_in_page-clause-err : goal.returns-in_err-set_in_page-clause-err
returns-in_err-set_in_page-clause-err c =
    on_error c.from_residual.result
    (ap (λ (l : List ℕ). row_of_pages c.set_in_page.new.pool.items l ++ c.self.inside.rest.items) c.in_err-set_in_page.ensures.err
    ∙ paged_in_grown c.self.inside.pool.items c.set_in_page.new.pool.items c.self.inside.pages.items c.self.inside.rest.items c.self.invariant
    c.set_in_page.ensures.grown ∙ c.self.view_is)

pub returns-clause-ok : goal.returns-clause-ok
returns-clause-ok c =
    set_in_row c.self.inside.pool.items c.self.inside.pages.items c.self.inside.rest.items c.args.self.now (sym c.self.view_is) c.self.invariant c.args.index
    c.args.number (row_of_pages c.set_in_page.new.pool.items c.set_in_page.new.pages.items) (omega (arith, c.len-paged.ensures, c.if-index-paged.false))
    c.in_ok-set_in_page.ensures.value
