use Rattle.std.specs.Prelude.{◌≡◌, ◌++◌, None, drop}
use Rattle.rr_model.specs.Vcal.Written.{items_text}
use Rattle.rr_vcal.proofs.rule_text.push_items.Given as goal

-- the items so far were added
abbrev pub invariant-loop-item : goal.invariant-loop-item
invariant-loop-item l = l.out.items ++ items_text l.before (drop l.item-index l.items) ≡ l.fn.out.items ++ items_text None l.items
