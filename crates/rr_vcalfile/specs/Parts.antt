-- The events of a vCalendar 1.0 text as parts of it.
use Rattle.std.specs.Prelude.{◌≡◌, ◌+◌, ◌<◌, ◌^◌, List, length, map, Vec, Result, Ok, Err, ⊤}
use Rattle.std.specs.Global.{Global}
use Rattle.rr_model.specs.declared.line.Line.{Line}
use Rattle.rr_model.specs.declared.refusal.Fault.{Fault}
use Rattle.rr_model.specs.declared.refusal.Fault.TheVariants as fault
use Rattle.rr_events.specs.declared.segment.Segment.{Segment}
use Rattle.rr_seam.specs.declared.file.FileFault.{FileFault}
use Rattle.rr_seam.specs.declared.file.FileFault.TheVariants as file_fault
use Rattle.rr_seam.specs.declared.file.FileRefusal.{FileRefusal}
use Rattle.rr_vcalfile.specs.Events.{component_refusal, kept_lines}
use Rattle.rr_vcalfile.specs.declared.part.Part.{Part}

-- the lines of a part of a text
abbrev pub lines_in : Part → List Line
lines_in part = kept_lines part.first part.text.now

-- the numbers of the lines of a segment are numbers of the machine
abbrev pub IsNumbered : Segment → Type 0
IsNumbered segment = segment.piece.first + length segment.piece.text.now < 2 ^ 64

-- the fault of a file for a fault of its components, or out of memory
abbrev pub component_fault : Fault → FileFault
component_fault (fault.Refused r) = file_fault.Refused (component_refusal r)
component_fault fault.NoMemory = file_fault.NoMemory

-- the parts are the events of a file, or the fault is its refusal; out of memory may come in place of each
abbrev pub AnswersEvents : Result (List (List Line)) FileRefusal → Result (Vec Part Global) FileFault → Type 0
AnswersEvents wanted (Ok parts) = wanted ≡ Ok (map lines_in parts.items)
AnswersEvents wanted (Err (file_fault.Refused r)) = wanted ≡ Err r
AnswersEvents wanted (Err file_fault.NoMemory) = ⊤
