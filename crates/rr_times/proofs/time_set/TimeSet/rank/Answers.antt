use Rattle.std.proofs.Common.{◌≤◌, arith}
use Rattle.rr_times.proofs.SetLemmas.{split_counts, split_fits}
use Rattle.rr_times.proofs.time_set.TimeSet.rank.Goals as goal

pub overflow_cast-result : goal.overflow_cast-result
overflow_cast-result c =
    let split = rw c.as_slice.ensures.same at c.count_below.ensures in
    let fits : c.count_below.result ≤ 86_400 = split_fits c.args.self.now c.count_below.result c.args.second split c.as_slice.ensures.of_day in
    omega arith

pub returns : goal.returns
returns c = split_counts c.args.self.now c.count_below.result c.args.second (rw c.as_slice.ensures.same at c.count_below.ensures)
