-- The calendar that a whole file is, or why it is refused.
use Rattle.std.specs.Prelude.{◌≡◌, ℕ, List, Result, Ok, Err, ⊤}
use Rattle.rr_seam.specs.Stated.{Calendar}
use Rattle.rr_seam.specs.declared.file.FileFault.{FileFault}
use Rattle.rr_seam.specs.declared.file.FileFault.TheVariants as file_fault
use Rattle.rr_seam.specs.declared.file.FileRefusal.{FileRefusal}

-- a calendar is the one that is wanted: it has its keys, and its events state the same and have the same titles
pub record IsCalendar (wanted : Result Calendar FileRefusal) (calendar : Calendar) : Type 0 where
  pub of_file : Calendar
  pub reads : wanted ≡ Ok of_file
  pub keys : calendar.keys ≡ of_file.keys
  pub stated : (indexes : List ℕ) → calendar.stated indexes ≡ of_file.stated indexes
  pub titles : (index : ℕ) → calendar.titles index ≡ of_file.titles index

-- The file that is read is the calendar that is wanted, or the fault is its refusal; out of memory may come in place of each.
abbrev pub AnswersCalendar : {F : Type 0} → (F → Calendar) → Result Calendar FileRefusal → Result F FileFault → Type 0
AnswersCalendar calendar_in wanted (Ok file) = IsCalendar wanted (calendar_in file)
AnswersCalendar calendar_in wanted (Err (file_fault.Refused r)) = wanted ≡ Err r
AnswersCalendar calendar_in wanted (Err file_fault.NoMemory) = ⊤
