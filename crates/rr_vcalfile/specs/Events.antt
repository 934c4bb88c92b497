-- The events of a vCalendar 1.0 text, each as its lines (vCalendar 1.0, sections 2.1.1 to 2.1.3).
use Rattle.std.specs.Prelude.{ℕ, nat_lt, true, if◌then◌else◌, List, [], ◌∷◌, length, Result, Ok, Err}
use Rattle.rr_model.specs.Text.Lines.{physical_lines, with_physical_lines, without_mark}
use Rattle.rr_model.specs.declared.line.Line.{Line}
use Rattle.rr_model.specs.declared.refusal.Refusal.{Refusal}
use Rattle.rr_model.specs.declared.refusal.Refusal.TheVariants as refusal
use Rattle.rr_events.specs.Begin.{has_begin}
use Rattle.rr_events.specs.RawLines.{RawLine, bytes_of}
use Rattle.rr_events.specs.Segments.{Section, Sections, sections_of}
use Rattle.rr_ical.specs.declared.open_names.Sought.TheVariants.{Events}
use Rattle.rr_seam.specs.declared.file.FileRefusal.{FileRefusal}
use Rattle.rr_seam.specs.declared.file.FileRefusal.TheVariants.{TooLong, NoEvents, BadLine}
use Rattle.rr_seam.specs.declared.file.TheConstants.{MAX_FILE}

-- the number of the first of these lines
abbrev pub first_number : List RawLine → ℕ
first_number [] = 0
first_number (raw ∷ raws) = raw.line.number

-- the lines of a part of a text whose first physical line has this number; a line that is folded keeps the blank at the fold
abbrev pub kept_lines : ℕ → List ℕ → List Line
kept_lines number bytes = with_physical_lines true number [] (physical_lines bytes)

-- the lines of an event
abbrev pub lines_of_event : List RawLine → List Line
lines_of_event raws = kept_lines (first_number raws) (bytes_of raws)

-- the events among the sections of a text
abbrev pub events_in : List Section → List (List Line)
events_in [] = []
events_in (section ∷ sections) = if section.is_component then lines_of_event section.lines ∷ events_in sections else events_in sections

-- the refusal of a file for a fault of its components, which is a line at fault
abbrev pub component_refusal : Refusal → FileRefusal
component_refusal (refusal.BadLine line) = BadLine line
component_refusal r = BadLine 0

-- the events of the text, or the refusal of the file
abbrev pub events_or_refusal : Sections → Result (List (List Line)) FileRefusal
events_or_refusal (Ok sections) = Ok (events_in sections)
events_or_refusal (Err r) = Err (component_refusal r)

-- the events of a text without a byte order mark, which has to have a BEGIN; they are found as those of iCalendar
abbrev pub text_events : List ℕ → Result (List (List Line)) FileRefusal
text_events text = if has_begin text then events_or_refusal (sections_of Events 1 text) else Err NoEvents

-- The events of a file, each as its lines, or why the whole file is refused.
abbrev pub file_events : List ℕ → Result (List (List Line)) FileRefusal
file_events bytes = if nat_lt MAX_FILE (length bytes) then Err TooLong else text_events (without_mark bytes)
