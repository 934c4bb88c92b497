use Rattle.std.proofs.Common.{◌≡◌, ◌+◌, List, ℕ, get_or, take, drop, set, length, refl, ap, subst, ◌∙◌, arith}
use Rattle.std.proofs.lemmas.Grind.{get_or_default_zero}
use Rattle.rr_runs.specs.Pages.{IsPageOf, page_numbers}
use Rattle.rr_runs.proofs.PagesLemmas.{length_page, number_set, pages_set}
use Rattle.rr_runs.proofs.pool.set_in_page.Goals.{After-rest_of_page}
use Rattle.rr_runs.proofs.pool.set_in_page.Goals as goal

-- the page that is copied
page_is : (c : After-rest_of_page) → c.rest_of_page.result.now ≡ page_numbers c.args.pool.now.items (get_or c.args.pages.now.items c.args.page 0)
page_is c =
    let pool = c.args.pool.now.items in
    let pages = c.args.pages.now.items in
    let at : c.index.result.now ≡ get_or pages c.args.page 0 = c.index.ensures ∙ get_or_default_zero pages c.args.page c.index.result.now c.requires.page in
    let from : c.index.result.now + 0 ≡ get_or pages c.args.page 0 = omega (arith, at) in
    (rw c.deref.ensures.value at c.rest_of_page.ensures) ∙ ap (λ k. take 63 (drop k pool)) from

pub copy_with-requires-clause-page : goal.copy_with-requires-clause-page
copy_with-requires-clause-page c =
    let pages = c.args.pages.now.items in
    ap length (page_is (goal.at.copy_with-requires-clause-page c).After-rest_of_page)
    ∙ length_page c.args.pool.now.items (get_or pages c.args.page 0) (c.requires.stand c.args.page c.requires.page)

pub returns-clause-stand : goal.returns-clause-stand
returns-clause-stand c =
    let pages = c.args.pages.now.items in
    pages_set c.args.pool.now.items c.page_of.new.pool.items pages (set pages c.args.page c.in_ok-new.new) c.args.page c.in_ok-new.new c.requires.stand
    c.page_of.ensures.grown c.in_ok-new.ensures.page.within refl

pub returns-clause-value : goal.returns-clause-value
returns-clause-value c =
    let pages = c.args.pages.now.items in
    let block = c.copy_with.ensures
    ∙ ap (λ (xs : List ℕ). set xs c.args.place c.args.number) (page_is (goal.at.returns-clause-value c).After-rest_of_page) in
    number_set c.args.pool.now.items c.page_of.new.pool.items pages (set pages c.args.page c.in_ok-new.new) c.args.page c.args.place c.in_ok-new.new
    c.args.number c.requires.stand c.page_of.ensures.grown c.requires.page c.requires.place
    (subst (λ (xs : List ℕ). IsPageOf c.page_of.new.pool.items xs c.in_ok-new.new) block c.in_ok-new.ensures.page) refl
