use Rattle.std.proofs.Common.{inl, refl}
use Rattle.rr_days.specs.Sequence.{sketch}
use Rattle.rr_split.specs.Promise.{IsPlanOf}
use Rattle.rr_answer.proofs.SplittingLemmas.{single_printable}
use Rattle.rr_answer.proofs.splitting.outcome_of_days.Goals as goal

pub write_plan-requires-clause-single : goal.write_plan-requires-clause-single
write_plan-requires-clause-single c =
    let is : IsPlanOf c.args.most (sketch c.args.days) c.in-Some.plan = rw (c.in-Some.is, c.get.ensures.value) at c.in_ok-plan.ensures in
    single_printable (sketch c.args.days) c.args.most c.in-Some.plan c.requires is

pub returns : goal.returns
returns c =
    let is : IsPlanOf c.args.most (sketch c.args.days) c.in-Some.plan = rw (c.in-Some.is, c.get.ensures.value) at c.in_ok-plan.ensures in
    inl (
      refl,
      record {
        plan = c.in-Some.plan;
        is_plan = is;
        split = is.split;
        written = rw c.as_slice.ensures.value at c.in_ok-text.ensures.text;
      },
    )
