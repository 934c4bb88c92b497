use Rattle.std.proofs.Common.{◌≡◌, None, length, drop}
use Rattle.std.specs.List.{slice_split}
use Rattle.std.specs.Option.{IfSome}
use Rattle.rr_model.specs.Text.Rules.{is_blank}
use Rattle.rr_model.specs.Text.Steps.{in_turn}
use Rattle.rr_model.specs.Vcal.Rule.{with_piece}
use Rattle.rr_vcal.specs.Parts.{IsValidParts}
use Rattle.rr_vcal.proofs.rule.with_pieces.Given as goal

abbrev pub invariant-loop-piece : goal.invariant-loop-piece
invariant-loop-piece l =
    (in_turn (with_piece l.line) l.parts (drop (length l.yielded) (slice_split is_blank l.text))
    ≡ in_turn (with_piece l.line) None (slice_split is_blank l.text))
    × IfSome l.parts IsValidParts
