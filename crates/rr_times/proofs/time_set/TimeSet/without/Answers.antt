use Rattle.std.proofs.Common.{nat_lt}
use Rattle.rr_model.specs.Rising.Sets.{IsSetOf}
use Rattle.rr_times.proofs.MergeLemmas.{InFirstAlone}
use Rattle.rr_times.proofs.SetLemmas.{some_seconds, second_of_day}
use Rattle.rr_times.proofs.time_set.TimeSet.without.Goals as goal

set_is : (c : goal.In_ok-difference_of) → IsSetOf nat_lt c.in_ok-difference_of.field-0.items (InFirstAlone c.args.a.now c.args.b.now)
set_is c = rw (c.as_slice.ensures.same, c.as_slice-2.ensures.same) at c.in_ok-difference_of.ensures

pub invariant_of-result : goal.invariant_of-result
invariant_of-result c =
    some_seconds (InFirstAlone c.args.a.now c.args.b.now) c.in_ok-difference_of.field-0.items (set_is c)
    (λ s p. second_of_day c.args.a.now s c.as_slice.ensures.of_day p.0)

pub returns : goal.returns
returns c = set_is c
