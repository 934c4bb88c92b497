use Rattle.std.specs.Prelude.{All}
use Rattle.rr_notes.specs.Visible.{IsVisible}
use Rattle.rr_notes.proofs.visible.visible_bytes.Given as goal

-- all that was written is visible
abbrev pub invariant-loop-byte : goal.invariant-loop-byte
invariant-loop-byte l = All IsVisible l.out.items
