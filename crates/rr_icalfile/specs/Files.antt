-- The events of a whole file, or why it is refused.
use Rattle.std.specs.Prelude.{◌≡◌, ◌+◌, ◌<◌, ◌^◌, ℕ, nat_lt, if◌then◌else◌, List, length, map, Vec, Result, Ok, Err, ⊤}
use Rattle.std.specs.Global.{Global}
use Rattle.rr_model.specs.Text.Lines.{without_mark}
use Rattle.rr_model.specs.declared.line.Line.{Line}
use Rattle.rr_model.specs.declared.refusal.Fault.{Fault}
use Rattle.rr_model.specs.declared.refusal.Fault.TheVariants as fault
use Rattle.rr_model.specs.declared.refusal.Refusal.{Refusal}
use Rattle.rr_model.specs.declared.refusal.Refusal.TheVariants as refusal
use Rattle.rr_events.specs.Begin.{has_begin}
use Rattle.rr_events.specs.Events.{events_of}
use Rattle.rr_events.specs.Finding.{lines_in}
use Rattle.rr_events.specs.declared.find.Piece.{Piece}
use Rattle.rr_seam.specs.declared.file.FileFault.{FileFault}
use Rattle.rr_seam.specs.declared.file.FileFault.TheVariants as file
use Rattle.rr_seam.specs.declared.file.FileRefusal.{FileRefusal}
use Rattle.rr_seam.specs.declared.file.FileRefusal.TheVariants.{TooLong, NoEvents, BadLine}
use Rattle.rr_seam.specs.declared.file.TheConstants.{MAX_FILE}

-- the refusal of a file for a fault of its components, which is a line at fault
abbrev pub component_refusal : Refusal → FileRefusal
component_refusal (refusal.BadLine line) = BadLine line
component_refusal r = BadLine 0

-- the refusal of a file for a fault of its components, or out of memory
abbrev pub file_fault : Fault → FileFault
file_fault (fault.Refused r) = file.Refused (component_refusal r)
file_fault fault.NoMemory = file.NoMemory

-- the events of the text, or the refusal of the file
abbrev pub events_or_refusal : Result (List (List Line)) Refusal → Result (List (List Line)) FileRefusal
events_or_refusal (Ok events) = Ok events
events_or_refusal (Err r) = Err (component_refusal r)

-- the events of a text without a byte order mark, which has to have a BEGIN
abbrev pub text_events : List ℕ → Result (List (List Line)) FileRefusal
text_events text = if has_begin text then events_or_refusal (events_of text) else Err NoEvents

-- The events of a file, each as its lines, or why the whole file is refused.
abbrev pub file_events : List ℕ → Result (List (List Line)) FileRefusal
file_events bytes = if nat_lt MAX_FILE (length bytes) then Err TooLong else text_events (without_mark bytes)

-- the numbers of the lines of a piece are numbers of the machine
abbrev pub IsNumberedPiece : Piece → Type 0
IsNumberedPiece piece = piece.first + length piece.text.now < 2 ^ 64

-- the pieces are the events of a file, or the fault is its refusal
abbrev pub AnswersFile : List ℕ → Result (Vec Piece Global) FileFault → Type 0
AnswersFile bytes (Ok pieces) = file_events bytes ≡ Ok (map lines_in pieces.items)
AnswersFile bytes (Err (file.Refused r)) = file_events bytes ≡ Err r
AnswersFile bytes (Err file.NoMemory) = ⊤
