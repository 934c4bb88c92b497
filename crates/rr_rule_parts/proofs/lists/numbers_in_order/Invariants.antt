use Rattle.std.proofs.Common.{◌≡◌, length, drop, []}
use Rattle.std.specs.Prelude.{int_lt}
use Rattle.rr_model.specs.Text.RuleValues.{pieces, rising_values}
use Rattle.rr_rule_parts.specs.Values.{number_within}
use Rattle.rr_rule_parts.proofs.lists.numbers_in_order.Given as goal

abbrev pub invariant-loop-piece : goal.invariant-loop-piece
invariant-loop-piece l =
    rising_values int_lt (number_within l.line l.bounds) l.numbers (drop (length l.yielded) (pieces 44 l.text))
    ≡ rising_values int_lt (number_within l.line l.bounds) [] (pieces 44 l.text)
