use Rattle.std.proofs.Common.{arith}
use Rattle.rr_days.specs.Sequence.{sketch}
use Rattle.rr_split.proofs.VcalPlanLemmas.{events_are_plan}
use Rattle.rr_split.proofs.vcal.plan_by_candidates.Goals as goal

pub returns : goal.returns
returns c =
    let taken = c.in_ok-taken.taken in
    let few = c.in_ok-taken.ensures.few in
    let most = c.first_sets.ensures in
    events_are_plan (sketch c.args.days) (sketch taken.rest) c.args.most taken.room
    (record { events = taken.events; kind = c.kind-kind.result; single = c.in-Some.left }) c.requires c.in_ok-taken.ensures.split
    (rw c.in-Some.is at c.in_ok-left.ensures.equal) c.kind-kind.ensures (omega (arith, few, most)) c.in_ok-taken.ensures.room
    (rw c.in-Some.is at c.in_ok-left.ensures.few) (rw c.in-Some.is at c.in_ok-left.ensures.rises)
    (rw c.as_slice-2.ensures.value at (c.are_in_years.ensures.all c.if-not-are_in_years.false))
