use Rattle.std.proofs.Common.{◌+◌, ap, ◌∙◌, length, length-drop, refl, arith}
use Rattle.rr_runs.proofs.PagesLemmas.{more_zero_pages}
use Rattle.rr_runs.proofs.pool.zero_pages.Goals as goal

pub loop-count-preserved : goal.loop-count-preserved
loop-count-preserved c =
    let pages = c.args.pages.now in
    let count = c.loop-count.count in
    let left = ap length c.rest_from.ensures ∙ length-drop (count + 1) pages in (
      omega (arith, left, c.leading_same.ensures.few, c.loop-count-test.true),
      more_zero_pages c.args.pool.now pages c.rest_from.result.now count c.leading_same.result _ c.loop-count.invariant.1 refl
          (c.is_zero_page.ensures c.if-not-is_zero_page.false) c.rest_from.ensures c.leading_same.ensures.same,
    )
