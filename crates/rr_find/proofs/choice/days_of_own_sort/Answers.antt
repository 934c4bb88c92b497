use Rattle.std.proofs.Common.{◌<◌, ◌≤◌, get_or, sym, ap, ◌∙◌, arith}
use Rattle.rr_family.specs.Sorts.{many_sorts}
use Rattle.rr_find.proofs.ChoiceLemmas.{days_of_own, days_of_none}
use Rattle.rr_find.proofs.choice.days_of_own_sort.Goals as goal

pub returns-then-index-many_sorts : goal.returns-then-index-many_sorts
returns-then-index-many_sorts c =
    let l : c.args.index < many_sorts c.args.kind = omega (arith, c.if-index-many_sorts.true, c.many_sorts.ensures.value) in
    ap (λ k. get_or c.args.counts.now k 0) c.from.ensures
    ∙ sym (days_of_own c.args.kind (λ sort. get_or c.args.counts.now sort 0) c.args.index c.requires.own l)

pub returns-else-index-many_sorts : goal.returns-else-index-many_sorts
returns-else-index-many_sorts c =
    let l : many_sorts c.args.kind ≤ c.args.index = omega (arith, c.if-index-many_sorts.false, c.many_sorts.ensures.value) in
    sym (days_of_none c.args.kind (λ sort. get_or c.args.counts.now sort 0) c.args.index c.requires.own l)
