use Rattle.std.proofs.Common.{inl, refl, arith}
use Rattle.rr_days.specs.Sequence.{sketch}
use Rattle.rr_split.specs.Vcal.{IsVcalPlanOf}
use Rattle.rr_answer.proofs.SplittingLemmas.{events_valid}
use Rattle.rr_answer.proofs.splitting.vcal_outcome_of_days.Goals as goal

pub write_vcal_plan-requires-clause-events : goal.write_vcal_plan-requires-clause-events
write_vcal_plan-requires-clause-events c =
    let is : IsVcalPlanOf c.args.most (sketch c.args.days) c.in-Some.plan = rw (c.in-Some.is, c.get.ensures.value) at c.in_ok-plan.ensures in
    rw c.as_slice.ensures.value (events_valid (sketch c.args.days) c.args.most c.in-Some.plan is)

pub write_vcal_plan-requires-clause-single : goal.write_vcal_plan-requires-clause-single
write_vcal_plan-requires-clause-single c =
    let is : IsVcalPlanOf c.args.most (sketch c.args.days) c.in-Some.plan = rw (c.in-Some.is, c.get.ensures.value) at c.in_ok-plan.ensures in
    is.years

pub write_vcal_plan-requires-clause-few : goal.write_vcal_plan-requires-clause-few
write_vcal_plan-requires-clause-few c =
    let is : IsVcalPlanOf c.args.most (sketch c.args.days) c.in-Some.plan = rw (c.in-Some.is, c.get.ensures.value) at c.in_ok-plan.ensures in
    let few = is.few_exceptions in
    omega (arith, few)

pub returns : goal.returns
returns c =
    let is : IsVcalPlanOf c.args.most (sketch c.args.days) c.in-Some.plan = rw (c.in-Some.is, c.get.ensures.value) at c.in_ok-plan.ensures in
    inl (
      refl,
      record {
        plan = c.in-Some.plan;
        is_plan = is;
        split = is.split;
        written = rw c.as_slice.ensures.value at c.in_ok-text.ensures.text;
      },
    )
