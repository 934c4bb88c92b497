use Rattle.std.proofs.Common.{◌∙◌}
use Rattle.rr_days.specs.Sequence.{sketch}
use Rattle.rr_split.proofs.PlanLemmas.{alone_is_plan}
use Rattle.rr_split.proofs.split.search.Goals as goal

pub returns : goal.returns
returns c =
    alone_is_plan (sketch c.args.days) c.args.most c.in-Some.event c.in_ok-plan.plan c.requires c.in-Some.ensures c.in_ok-plan.ensures.alone
    (c.in_ok-plan.ensures.kind ∙ c.kind.ensures)
