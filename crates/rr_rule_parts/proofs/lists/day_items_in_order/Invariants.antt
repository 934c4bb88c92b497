use Rattle.std.proofs.Common.{◌≡◌, length, drop, []}
use Rattle.rr_model.specs.Rising.{day_item_lt}
use Rattle.rr_model.specs.Text.RuleValues.{pieces, rising_values}
use Rattle.rr_rule_parts.specs.Values.{day_item_within}
use Rattle.rr_rule_parts.proofs.lists.day_items_in_order.Given as goal

abbrev pub invariant-loop-piece : goal.invariant-loop-piece
invariant-loop-piece l =
    rising_values day_item_lt (day_item_within l.line) l.items (drop (length l.yielded) (pieces 44 l.text))
    ≡ rising_values day_item_lt (day_item_within l.line) [] (pieces 44 l.text)
