use Rattle.std.proofs.Common.{◌∙◌}
use Rattle.rr_days.specs.Sequence.{sketch}
use Rattle.rr_split.proofs.VcalPlanLemmas.{alone_is_plan}
use Rattle.rr_split.proofs.vcal.search_vcal.Goals as goal

pub returns : goal.returns
returns c =
    alone_is_plan (sketch c.args.days) c.args.most c.in-Some.found c.in_ok-plan.plan c.requires (rw c.in-Some.is at c.in_ok-found.ensures)
    c.in_ok-plan.ensures.alone (c.in_ok-plan.ensures.kind ∙ c.kind.ensures)
