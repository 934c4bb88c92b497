-- A text cut into the components that are looked for and what stands between them (RFC 5545, sections 3.4 and 3.6).
use Rattle.std.specs.Prelude.{◌≡◌, ℕ, ◌+◌, ◌-◌, ◌≤◌, Bool, true, false, if◌then◌else◌, List, [], ◌∷◌, ◌++◌, length, map, Vec, Result, Ok, Err, ⊤}
use Rattle.std.specs.Global.{Global}
use Rattle.rr_model.specs.Rule.Validity.{is_absent}
use Rattle.rr_model.specs.Text.Lines.{physical_lines}
use Rattle.rr_model.specs.Text.RuleValues.{◌>>=◌}
use Rattle.rr_model.specs.declared.line.Line.{Line}
use Rattle.rr_model.specs.declared.refusal.Fault.{Fault}
use Rattle.rr_model.specs.declared.refusal.Fault.TheVariants.{Refused, NoMemory}
use Rattle.rr_model.specs.declared.refusal.Refusal.{Refusal}
use Rattle.rr_model.specs.declared.refusal.Refusal.TheVariants.{BadLine}
use Rattle.rr_ical.specs.Components.{open_after}
use Rattle.rr_events.specs.Finding.{IsBefore}
use Rattle.rr_events.specs.RawLines.{RawLine, raw_lines_at}
use Rattle.rr_ical.specs.Sought.{is_within}
use Rattle.rr_events.specs.declared.find.Piece.{Piece}
use Rattle.rr_ical.specs.declared.open_names.Sought.{Sought}
use Rattle.rr_events.specs.declared.segment.Cutter.{Cutter}
use Rattle.rr_events.specs.declared.segment.Segment.{Segment}

-- ---- what a text is cut into

-- lines in a row: those of a component that is looked for, from BEGIN to END, or what stands between two of these
pub record Section : Type 0 where
  pub is_component : Bool
  pub lines : List RawLine

abbrev pub Sections : Type 0
Sections = Result (List Section) Refusal

-- a section, and then those of the lines that follow
abbrev pub with_section : Bool → List RawLine → Sections → Sections
with_section is_component lines more = more >>= λ sections. Ok (record { is_component = is_component; lines = lines } ∷ sections)

-- what a line ends, by whether its place before and after it lies within a component that is looked for: what stands before one that begins
-- here, or one that ends here
abbrev pub cut_by : Bool → Bool → List RawLine → RawLine → (List RawLine → Sections) → Sections
cut_by false true so_far line more = with_section false so_far (more (line ∷ []))
cut_by true false so_far line more = with_section true (so_far ++ line ∷ []) (more [])
cut_by was is so_far line more = more (so_far ++ line ∷ [])

-- the sections from here on, with the lines so far of the one that is begun
abbrev pub sections_from : Sought → ℕ → List (List ℕ) → List RawLine → List RawLine → Sections
sections_from sought last names so_far [] = if is_absent names then with_section false so_far (Ok []) else Err (BadLine last)
sections_from sought last names so_far (line ∷ lines) =
    open_after names line.line >>= λ after.
    cut_by (is_within sought names) (is_within sought after) so_far line (λ begun. sections_from sought last after begun lines)

-- The sections of a part of a text whose first physical line has this number, or the first fault of its components.
abbrev pub sections_of : Sought → ℕ → List ℕ → Sections
sections_of sought number text = sections_from sought (number + length (physical_lines text) - 1) [] [] (raw_lines_at number text)

-- ---- what is found

-- the section that a segment of the text is
abbrev pub section_in : Segment → Section
section_in segment = record { is_component = segment.is_component; lines = raw_lines_at segment.piece.first segment.piece.text.now }

-- the segments are the sections of the piece, or the refusal is that of its components
abbrev pub AreSegments : Sought → Piece → Result (Vec Segment Global) Fault → Type 0
AreSegments sought piece (Ok found) = sections_of sought piece.first piece.text.now ≡ Ok (map section_in found.items)
AreSegments sought piece (Err (Refused refusal)) = sections_of sought piece.first piece.text.now ≡ Err refusal
AreSegments sought piece (Err NoMemory) = ⊤

-- the lines of the segment have no greater numbers than the bytes of the piece allow
abbrev pub IsWithin : Piece → Segment → Type 0
IsWithin piece segment = segment.piece.first + length segment.piece.text.now ≤ piece.first + length piece.text.now

-- ---- one line more

-- one segment more is found, from where `begun` begins to where the next begins
pub record IsCutOff (is_component : Bool) (begun next : Piece) (old new : List Segment) : Type 0 where
  pub segment : Segment
  pub kind : segment.is_component ≡ is_component
  pub is : IsBefore begun next.text.now segment.piece
  pub put : new ≡ old ++ segment ∷ []

-- what is found and what is begun after a line, by whether its place before and after it lies within a component that is looked for
abbrev pub IsCutAfter : Bool → Bool → Cutter → Cutter → Piece → Piece → Type 0
IsCutAfter false true old new here after = IsCutOff false old.begun here old.found.items new.found.items × (new.begun ≡ here)
IsCutAfter true false old new here after = IsCutOff true old.begun after old.found.items new.found.items × (new.begun ≡ after)
IsCutAfter was is old new here after = (new.found.items ≡ old.found.items) × (new.begun ≡ old.begun)

-- the cutter has taken in one line
pub record IsTaken (sought : Sought) (old new : Cutter) (here : Piece) (line : Line) (after : Piece) : Type 0 where
  pub names : open_after old.names line ≡ Ok new.names
  pub cut : IsCutAfter (is_within sought old.names) (is_within sought new.names) old new here after

-- a line is taken in, or refused
abbrev pub IsTakenIn : Sought → Cutter → Cutter → Piece → Line → Piece → Result (Unit {0}) Fault → Type 0
IsTakenIn sought old new here line after (Ok done) = IsTaken sought old new here line after
IsTakenIn sought old new here line after (Err (Refused refusal)) = open_after old.names line ≡ Err refusal
IsTakenIn sought old new here line after (Err NoMemory) = ⊤
