-- The event of a key that is gathered.
use Rattle.std.specs.Prelude.{◌≡◌, List, Option, Some, option_map, Result, Ok, Err, ⊤}
use Rattle.rr_model.specs.declared.line.Line.{Line}
use Rattle.rr_seam.specs.declared.refusal.KeyFault.{KeyFault}
use Rattle.rr_seam.specs.declared.refusal.KeyFault.TheVariants as key_fault
use Rattle.rr_seam.specs.declared.refusal.KeyRefusal.{KeyRefusal}
use Rattle.rr_vcalfile.specs.Parts.{lines_in}
use Rattle.rr_vcalfile.specs.declared.first.FirstEvent.{FirstEvent}

-- the lines of the first event
abbrev pub first_lines : FirstEvent → List Line
first_lines first = lines_in first.part

-- the first event is the one that is gathered, or the fault is its refusal; out of memory may come in place of each
abbrev pub AnswersGathered : Result (Option (List Line)) KeyRefusal → Result (Option FirstEvent) KeyFault → Type 0
AnswersGathered wanted (Ok first) = wanted ≡ Ok (option_map first_lines first)
AnswersGathered wanted (Err (key_fault.Refused r)) = wanted ≡ Err r
AnswersGathered wanted (Err key_fault.NoMemory) = ⊤

-- the event is the first one that is gathered, which there is, or the fault is its refusal; out of memory may come in
-- place of each
abbrev pub AnswersFirst : Result (Option (List Line)) KeyRefusal → Result FirstEvent KeyFault → Type 0
AnswersFirst wanted (Ok first) = wanted ≡ Ok (Some (first_lines first))
AnswersFirst wanted (Err (key_fault.Refused r)) = wanted ≡ Err r
AnswersFirst wanted (Err key_fault.NoMemory) = ⊤
