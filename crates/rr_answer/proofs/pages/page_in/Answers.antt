use Rattle.std.proofs.Common.{sym, ◌∙◌}
use Rattle.rr_answer.proofs.PageLemmas.{page_found, page_passed}
use Rattle.rr_answer.proofs.pages.page_in.Goals as goal

pub returns-then-eq : goal.returns-then-eq
returns-then-eq c =
    sym (page_found c.args.name.now c.args.pages.now c.loop-page.page-index _ c.loop-page-test.true (sym c.eq.ensures ∙ c.if-eq.true))
    ∙ sym c.loop-page.invariant

pub loop-page-preserved : goal.loop-page-preserved
loop-page-preserved c =
    c.loop-page.invariant ∙ page_passed c.args.name.now c.args.pages.now c.loop-page.page-index _ c.loop-page-test.true (sym c.eq.ensures ∙ c.if-eq.false)
