-- The unfolded lines of a text with the bytes that they stand on (RFC 5545, section 3.1).
use Rattle.std.specs.Prelude.{ℕ, ◌+◌, List, [], ◌∷◌, ◌++◌, length}
use Rattle.rr_model.specs.Text.Lines.{physical_lines}
use Rattle.rr_model.specs.declared.line.Line.{Line}
use Rattle.rr_events.specs.Cutting.{lines_at, raw_texts}

-- an unfolded line, and its bytes with their line breaks
pub record RawLine : Type 0 where
  pub line : Line
  pub bytes : List ℕ

-- the first of these lines, and without one an empty line
abbrev pub first_line : ℕ → List Line → Line
first_line number [] = record { number = number; text = [] }
first_line number (line ∷ lines) = line

-- the unfolded line of these bytes, whose first physical line has this number
abbrev pub raw_line : ℕ → List ℕ → RawLine
raw_line number bytes = record { line = first_line number (lines_at number bytes); bytes = bytes }

-- the unfolded lines of these bytes in a row
abbrev pub raw_lines_from : ℕ → List (List ℕ) → List RawLine
raw_lines_from number [] = []
raw_lines_from number (bytes ∷ more) = raw_line number bytes ∷ raw_lines_from (number + length (physical_lines bytes)) more

-- The unfolded lines of a part of a text whose first physical line has this number, each with its bytes.
abbrev pub raw_lines_at : ℕ → List ℕ → List RawLine
raw_lines_at number text = raw_lines_from number (raw_texts text)

-- the lines without their bytes
abbrev pub lines_of : List RawLine → List Line
lines_of [] = []
lines_of (raw ∷ raws) = raw.line ∷ lines_of raws

-- the bytes of the lines in a row
abbrev pub bytes_of : List RawLine → List ℕ
bytes_of [] = []
bytes_of (raw ∷ raws) = raw.bytes ++ bytes_of raws
