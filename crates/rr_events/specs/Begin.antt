-- Whether a text has components at all.
use Rattle.std.specs.Prelude.{ℕ, Bool, List, codes}
use Rattle.std.specs.List.{list_any}
use Rattle.rr_model.specs.Text.UsedLines.{is_named}
use Rattle.rr_model.specs.declared.line.Line.{Line}
use Rattle.rr_events.specs.Cutting.{lines_at}

-- some line of a text has the name BEGIN
abbrev pub has_begin : List ℕ → Bool
has_begin text = list_any (λ (line : Line). is_named line.text (codes "BEGIN")) (lines_at 1 text)
