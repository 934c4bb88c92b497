use Rattle.std.proofs.Common.{nat_lt, inl, inr}
use Rattle.rr_model.specs.Rising.Sets.{IsSetOf}
use Rattle.rr_times.proofs.MergeLemmas.{InEither}
use Rattle.rr_times.proofs.SetLemmas.{some_seconds, second_of_day}
use Rattle.rr_times.proofs.time_set.TimeSet.union.Goals as goal

set_is : (c : goal.In_ok-union_of) → IsSetOf nat_lt c.in_ok-union_of.field-0.items (InEither c.args.a.now c.args.b.now)
set_is c = rw (c.as_slice.ensures.same, c.as_slice-2.ensures.same) at c.in_ok-union_of.ensures

pub invariant_of-result : goal.invariant_of-result
invariant_of-result c =
    some_seconds (InEither c.args.a.now c.args.b.now) c.in_ok-union_of.field-0.items (set_is c)
    (λ s p. elim p [ inl d ↦ second_of_day c.args.a.now s c.as_slice.ensures.of_day d | inr d ↦ second_of_day c.args.b.now s c.as_slice-2.ensures.of_day d ])

pub returns : goal.returns
returns c = set_is c
