use Rattle.std.proofs.Common.{◌≡◌, [], List, ℕ, ◌++◌, length, refl, sym, ap, ◌∙◌, append-nil, length-drop, arith}
use Rattle.std.proofs.lemmas.List.{nil_from_length}
use Rattle.rr_runs.specs.Pages.{row_of_pages}
use Rattle.rr_runs.proofs.PagesLemmas.{grown_none, grown_on, page_goes_on}
use Rattle.rr_runs.proofs.room.put_pages.Goals as goal

pub loop-left-init : goal.loop-left-init
loop-left-init c = (
  grown_none c.args.pool.now.items,
  grown_none c.args.pages.now.items,
  c.requires.stand,
  refl,
  c.requires.whole,
  refl,
)

pub loop-left-preserved : goal.loop-left-preserved
loop-left-preserved c =
    let is = c.loop-left.invariant in
    let left = c.loop-left.left.now in
    let less = ap length c.rest_from-left.ensures ∙ length-drop 63 left in (
      grown_on c.args.pool.now.items c.loop-left.pool.items c.put_page.new.pool.items is.0 c.put_page.ensures.grown,
      grown_on c.args.pages.now.items c.loop-left.pages.items c.put_page.new.pages.items is.1 c.put_page.ensures.more,
      c.put_page.ensures.stand,
      page_goes_on (row_of_pages c.args.pool.now.items c.args.pages.now.items ++ c.args.numbers.now) c.first_numbers.result.now left c.rest_from-left.result.now
          (row_of_pages c.loop-left.pool.items c.loop-left.pages.items) (row_of_pages c.put_page.new.pool.items c.put_page.new.pages.items) (omega arith)
          c.first_numbers.ensures c.rest_from-left.ensures c.in_ok-put_page.ensures.value is.3,
      omega (arith, less, is.4),
      omega (arith, less, is.5, c.in_ok-put_page.ensures.many),
    )

pub returns-in_err-put_page-clause-grown : goal.returns-in_err-put_page-clause-grown
returns-in_err-put_page-clause-grown c =
    grown_on c.args.pool.now.items c.loop-left.pool.items c.put_page.new.pool.items c.loop-left.invariant.0 c.put_page.ensures.grown

pub returns-in_err-put_page-clause-more : goal.returns-in_err-put_page-clause-more
returns-in_err-put_page-clause-more c =
    grown_on c.args.pages.now.items c.loop-left.pages.items c.put_page.new.pages.items c.loop-left.invariant.1 c.put_page.ensures.more

pub returns-clause-value : goal.returns-clause-value
returns-clause-value c =
    let now = row_of_pages c.loop-left.pool.items c.loop-left.pages.items in
    let none : c.loop-left.left.now ≡ [] = nil_from_length c.loop-left.left.now (omega (arith, c.loop-left.invariant.4)) in
    sym (append-nil now) ∙ ap (λ (l : List ℕ). now ++ l) (sym none) ∙ c.loop-left.invariant.3

pub loop-left-smaller : goal.loop-left-smaller
loop-left-smaller c =
    let less = ap length c.rest_from-left.ensures ∙ length-drop 63 c.loop-left.left.now in
    omega (arith, less)
