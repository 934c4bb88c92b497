use Rattle.std.proofs.Common.{inr}
use Rattle.rr_days.specs.Sequence.{sketch}
use Rattle.rr_split.proofs.VcalPlanLemmas.{outside_of_years, single_is_plan}
use Rattle.rr_split.proofs.vcal.plan_of_events.Goals as goal

pub returns-then-not-are_in_years : goal.returns-then-not-are_in_years
returns-then-not-are_in_years c = record {
  no_rule = c.requires;
  many =
      inr (outside_of_years (sketch c.args.days) c.kind-kind.result c.in-Some-few.single (rw c.in-Some-few.is at c.in_ok-few.ensures.equal)
      c.kind-kind.ensures (rw c.as_slice.ensures.value at (c.are_in_years.ensures.outside c.if-not-are_in_years.true)));
}

pub returns : goal.returns
returns c =
    single_is_plan (sketch c.args.days) c.args.most (record { events = c.new.result; kind = c.kind-kind.result; single = c.in-Some-few.single })
    c.requires c.new.ensures.items (rw c.in-Some-few.is at c.in_ok-few.ensures.equal) c.kind-kind.ensures
    (rw c.in-Some-few.is at c.in_ok-few.ensures.few) (rw c.in-Some-few.is at c.in_ok-few.ensures.rises)
    (rw c.as_slice.ensures.value at (c.are_in_years.ensures.all c.if-not-are_in_years.false))
