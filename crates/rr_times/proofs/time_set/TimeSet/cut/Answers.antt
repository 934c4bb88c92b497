use Rattle.std.proofs.Common.{◌≤◌, nat_lt}
use Rattle.rr_model.specs.Rising.Sets.{IsSetOf}
use Rattle.rr_times.proofs.SetLemmas.{cut_between, reach, some_seconds, second_of_day}
use Rattle.rr_times.proofs.time_set.TimeSet.cut.Goals as goal
use Rattle.std.specs.Prelude.{◌<◌, Contains}

cut_is : (c : goal.In_ok-from_slice) → IsSetOf nat_lt c.in_ok-from_slice.field-0.items (λ s. Contains c.args.a.now s × (c.args.from ≤ s) × (s < c.args.to))
cut_is c =
    let start = rw c.as_slice-seconds.ensures.same at c.count_below-start.ensures in
    let last = rw c.as_slice-seconds.ensures.same at c.count_below.ensures in
    let items = rw c.as_slice-seconds.ensures.same at c.in_ok-from_slice.ensures.items in
    rw items (cut_between c.args.a.now c.as_slice-seconds.ensures.of_day.rises c.args.from c.args.to c.count_below-start.result c.count_below.result
    c.max-end.result start last (reach c.count_below.result c.count_below-start.result c.max-end.result c.max-end.ensures))

pub invariant_of-result : goal.invariant_of-result
invariant_of-result c =
    some_seconds (λ s. Contains c.args.a.now s × (c.args.from ≤ s) × (s < c.args.to)) c.in_ok-from_slice.field-0.items (cut_is c)
    (λ s p. second_of_day c.args.a.now s c.as_slice-seconds.ensures.of_day p.0)

pub returns : goal.returns
returns c = cut_is c
