use Rattle.std.proofs.Common.{arith, sym}
use Rattle.rr_family.specs.Sorts.{has_sort}
use Rattle.rr_family.proofs.TallyLemmas.{sum_zero}
use Rattle.rr_find.proofs.ChoiceLemmas.{sum_next, few_if}
use Rattle.rr_find.proofs.choice.days_of_sorts.Goals as goal

pub loop-sort-init : goal.loop-sort-init
loop-sort-init c = (sym (sum_zero _), omega arith)

pub loop-sort-preserved : goal.loop-sort-preserved
loop-sort-preserved c =
    let few = few_if (has_sort c.args.kind c.loop-sort.sort c.args.index) _ 4_000_000_000 (c.requires.few c.loop-sort.sort) in (
      sum_next c.loop-sort.sort _ c.loop-sort.days c.days_of_sort-days.result c.loop-sort.invariant.0 c.days_of_sort-days.ensures,
      omega (arith, c.loop-sort.invariant.1, c.days_of_sort-days.ensures, few),
    )
