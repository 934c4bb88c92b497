use Rattle.std.proofs.Common.{◌≡◌, length, drop}
use Rattle.rr_skip.specs.Parts.{no_scale_parts, with_scale_part}
use Rattle.rr_model.specs.Text.RuleValues.{pieces}
use Rattle.rr_model.specs.Text.Steps.{in_turn}
use Rattle.rr_skip.proofs.parts.scale_parts_between.Given as goal

abbrev pub invariant-loop-piece : goal.invariant-loop-piece
invariant-loop-piece l =
    in_turn (with_scale_part l.line) l.parts (drop (length l.yielded) (pieces 59 l.text))
    ≡ in_turn (with_scale_part l.line) no_scale_parts (pieces 59 l.text)
