use Rattle.std.specs.Prelude.{◌≡◌, ◌++◌, drop, false, map, nat_lt}
use Rattle.serde_json.specs.View.{items_of}
use Rattle.serde_json.specs.Written.{items_text}
use Rattle.rr_plan_text.specs.PlanText.{part_json, parts_items}
use Rattle.rr_plan_text.proofs.plan.push_parts.Given as goal

-- with the series that are still to come the text is the whole list
abbrev pub invariant-loop-index : goal.invariant-loop-index
invariant-loop-index l =
    l.out.items ++ items_text (nat_lt 0 l.index) (items_of (map part_json (drop l.index l.parts))) ≡ l.fn.out.items ++ items_text false (parts_items l.parts)
