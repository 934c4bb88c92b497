use Rattle.std.proofs.Common.{arith}
use Rattle.rr_find.proofs.TallyDayLemmas.{sort_fits}
use Rattle.rr_find.proofs.tallies.counts_day.Goals as goal

pub count_at-requires-clause-index : goal.count_at-requires-clause-index
count_at-requires-clause-index g c =
    let l = sort_fits c.args.kind c.args.interval _ _ c.sort_of_day.result c.in-Some.sort c.sort_of_day.ensures c.in-Some.is in
    omega (arith, l, c.requires.sorts)

pub count_at-requires-clause-free_index : goal.count_at-requires-clause-free_index
count_at-requires-clause-free_index g c =
    let l = sort_fits c.args.kind c.args.interval _ _ c.sort_of_day.result c.in-Some.sort c.sort_of_day.ensures c.in-Some.is in
    omega (arith, l, c.requires.free_sorts)

pub is_mixed-requires-clause-index : goal.is_mixed-requires-clause-index
is_mixed-requires-clause-index g c =
    let l = sort_fits c.args.kind c.args.interval _ _ c.sort_of_day.result c.in-Some.sort c.sort_of_day.ensures c.in-Some.is in
    omega (arith, l, c.requires.sorts, c.count_at.ensures.occupied.0)

pub is_mixed-requires-clause-free_index : goal.is_mixed-requires-clause-free_index
is_mixed-requires-clause-free_index g c =
    let l = sort_fits c.args.kind c.args.interval _ _ c.sort_of_day.result c.in-Some.sort c.sort_of_day.ensures c.in-Some.is in
    omega (arith, l, c.requires.free_sorts, c.count_at.ensures.free.0)
