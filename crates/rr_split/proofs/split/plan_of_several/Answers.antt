use Rattle.rr_days.specs.Sequence.{sketch}
use Rattle.rr_split.proofs.PlanLemmas.{single_is_plan}
use Rattle.rr_split.proofs.split.plan_of_several.Goals as goal

pub returns : goal.returns
returns c =
    single_is_plan (sketch c.args.days) c.args.most (record { parts = c.new.result; kind = c.kind-kind.result; single = c.in-Some-few.single })
    c.requires c.new.ensures.items (rw c.in-Some-few.is at c.in_ok-few.ensures.equal) c.kind-kind.ensures
    (rw c.in-Some-few.is at c.in_ok-few.ensures.few) (rw c.in-Some-few.is at c.in_ok-few.ensures.rises)
    (rw c.in-Some-few.is at c.in_ok-few.ensures.within)
