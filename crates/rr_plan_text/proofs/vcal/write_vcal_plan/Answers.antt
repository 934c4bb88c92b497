use Rattle.std.proofs.Common.{refl}
use Rattle.rr_plan_text.specs.VcalText.{vcal_plan_text}
use Rattle.rr_plan_text.proofs.vcal.write_vcal_plan.Goals as goal

pub returns : goal.returns
unfolding vcal_plan_text
returns c = record {
  text = rw (c.in_ok-push_single.ensures, c.in_ok-push_components.ensures, c.new-text.ensures.items, c.as_slice.ensures.value) refl;
}
