-- The calendar that a file of Microsoft Graph is (list events).
use Rattle.std.specs.Prelude.{◌≡◌, ℕ, ℤ, List, Option, Result, Ok, Err, ⊤}
use Rattle.serde_json.specs.Data.{Data}
use Rattle.serde_json.specs.View.{view}
use Rattle.serde_json.specs.declared.value.Value.{Value}
use Rattle.rr_seam.specs.Stated.{Calendar}
use Rattle.rr_seam.specs.declared.file.FileFault.{FileFault}
use Rattle.rr_seam.specs.declared.file.FileFault.TheVariants as file_fault
use Rattle.rr_seam.specs.declared.file.FileRefusal.{FileRefusal}
use Rattle.rr_graphfile.specs.Items.{file_items, items_in, json_value, value_items}
use Rattle.rr_graphfile.specs.Known.{known_meaning}
use Rattle.rr_graphfile.specs.Stated.{calendar_of, stated_in, title_at}
use Rattle.rr_graphfile.specs.Turning.{Meaning}
use Rattle.rr_graphfile.specs.declared.file.GraphFile.{GraphFile}

-- the calendar of a list of events, or why its file is refused
abbrev pub calendar_or : Meaning → Option ℤ → Result (List Data) FileRefusal → Result Calendar FileRefusal
calendar_or means offset (Ok items) = Ok (calendar_of means offset items)
calendar_or means offset (Err r) = Err r

-- The calendar that the bytes of a file are, beside what names of zones mean and a stated offset of local time from UTC in seconds, or why the
-- whole file is refused.
abbrev pub calendar : Meaning → Option ℤ → List ℕ → Result Calendar FileRefusal
calendar means offset bytes = calendar_or means offset (file_items bytes)

-- the calendar that a file which was read is
abbrev pub calendar_in : GraphFile → Calendar
calendar_in file = record { keys = file.keys.items; stated = stated_in (known_meaning file.zones) file.offset (items_in (view file.value)); titles = title_at (items_in (view file.value)) }

-- the value has a list of events, or is refused
abbrev pub IsJudged : Data → Result (Unit {0}) FileRefusal → Type 0
IsJudged value (Ok done) = value_items value ≡ Ok (items_in value)
IsJudged value (Err r) = value_items value ≡ Err r

-- the value is that of the text, or the text is refused; out of memory may come in place of each
abbrev pub AnswersValue : List ℕ → Result Value FileFault → Type 0
AnswersValue text (Ok value) = json_value text ≡ Ok (view value)
AnswersValue text (Err (file_fault.Refused r)) = json_value text ≡ Err r
AnswersValue text (Err file_fault.NoMemory) = ⊤

-- the value is the list that is wanted, or the fault is its refusal; out of memory may come in place of each
abbrev pub AnswersList : Result (List Data) FileRefusal → Result Value FileFault → Type 0
AnswersList wanted (Ok value) = wanted ≡ Ok (items_in (view value))
AnswersList wanted (Err (file_fault.Refused r)) = wanted ≡ Err r
AnswersList wanted (Err file_fault.NoMemory) = ⊤
