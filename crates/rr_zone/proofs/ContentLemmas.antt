-- What the parts of a text are.
use Rattle.std.proofs.Common.{◌≡◌, ℕ, List, [], ap, ◌∙◌}
use Rattle.rr_model.specs.Text.UsedLines.{value_of_line}
use Rattle.rr_model.specs.declared.line.Line.{Line}
use Rattle.rr_events.specs.Cutting.{IsCut}
use Rattle.rr_events.specs.Own.{value_or_empty}
use Rattle.rr_events.specs.RawLines.{raw_lines_at}
use Rattle.rr_events.proofs.SegmentLemmas.{cut-line, raw-first}
use Rattle.rr_zone.specs.Parts.{begun_name}

-- the name that a text begins is the value of its first line
pub begun : (number : ℕ) (text : List ℕ) (line : Line) (after : List ℕ) (next : ℕ) → IsCut number text line after next
    → begun_name (raw_lines_at number text) ≡ value_or_empty (value_of_line line.text)
begun number text line after next cut =
    ap begun_name (raw-first number text line after next cut)
    ∙ ap (λ (l : Line). value_or_empty (value_of_line l.text)) (cut-line number text line after next cut)

pub begun-none : (number : ℕ) (text : List ℕ) → text ≡ [] → begun_name (raw_lines_at number text) ≡ []
begun-none number text e = ap (λ (t : List ℕ). begun_name (raw_lines_at number t)) e
