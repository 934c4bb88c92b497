use Rattle.std.proofs.Common.{◌++◌, ℕ, List, false, ap, ◌∙◌}
use Rattle.serde_json.specs.Written.{items_text}
use Rattle.rr_plan_text.specs.PlanText.{parts_items}
use Rattle.rr_plan_text.proofs.TextLemmas.{whole_text}
use Rattle.rr_plan_text.proofs.plan.write_plan.Goals as goal

pub returns : goal.returns
returns c = record {
  text =
      rw (c.in_ok-extend_from_slice-3.ensures.items, c.in_ok-extend_from_slice-2.ensures.items, c.as_slice-2.ensures.value, c.in_ok-extend_from_slice.ensures.items)
      (whole_text c.args.parts.now c.args.kind c.args.single.now c.push_parts.new.out.items c.in_ok-single.single.items
      (c.in_ok-push_parts.ensures ∙ ap (λ (l : List ℕ). l ++ items_text false (parts_items c.args.parts.now)) c.in_ok-text.ensures.items)
      (rw c.as_slice.ensures.value at c.in_ok-single.ensures));
}
