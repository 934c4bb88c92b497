use Rattle.std.proofs.Common.{◌≡◌, drop}
use Rattle.rr_model.specs.Text.Event.{is_bare_text}
use Rattle.rr_notes.proofs.starts.is_bare.Given as goal

abbrev pub invariant-loop-line : goal.invariant-loop-line
invariant-loop-line l = is_bare_text (drop l.line-index l.lines) ≡ is_bare_text l.lines
