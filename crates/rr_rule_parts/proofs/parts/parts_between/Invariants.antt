use Rattle.std.proofs.Common.{◌≡◌, length, drop}
use Rattle.rr_rule_parts.specs.Rules.{no_parts, with_parts}
use Rattle.rr_model.specs.Text.RuleValues.{pieces}
use Rattle.rr_rule_parts.proofs.parts.parts_between.Given as goal

abbrev pub invariant-loop-piece : goal.invariant-loop-piece
invariant-loop-piece l = with_parts l.line l.parts (drop (length l.yielded) (pieces 59 l.text)) ≡ with_parts l.line no_parts (pieces 59 l.text)
