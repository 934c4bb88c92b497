-- What is answered to words over the bytes of the files.
use Rattle.std.specs.Prelude.{◌≡◌, ℕ, Bool, if◌then◌else◌, List, Option, None, Some, Result, Ok, Err}
use Rattle.rr_facts.specs.Facts.{Facts}
use Rattle.rr_json.specs.Json.{json_refusal_text, json_text}
use Rattle.rr_model.specs.declared.verdict.Side.{Side}
use Rattle.rr_model.specs.declared.verdict.Side.TheVariants.{A, B}
use Rattle.rr_page.specs.Page.{IsPageOf, IsPageOfRefusal}
use Rattle.rr_seam.specs.Stated.{Stated}
use Rattle.rr_seam.specs.declared.file.FileFault.{FileFault}
use Rattle.rr_seam.specs.declared.file.FileFault.TheVariants as file_fault
use Rattle.rr_seam.specs.declared.file.FileRefusal.{FileRefusal}
use Rattle.rr_trip.specs.Counts.{count_said, counts_of, is_in_utc, status_of}
use Rattle.rr_trip.specs.Printed.{file_refusal_line, report_text}
use Rattle.rr_trip.specs.Report.{IsReport}
use Rattle.rr_trip.specs.Shown.{IsShownIn}
use Rattle.rr_trip.specs.Zoned.{ZonedCalendar}
use Rattle.rr_trip.specs.declared.report.ReportLine.{ReportLine}
use Rattle.rr_trip.specs.declared.report.Status.{Status as Ending}
use Rattle.rr_trip.specs.declared.report.Status.TheVariants as ending
use Rattle.rr_trip.specs.declared.said.Said.{Said}
use Rattle.rr_trip.specs.declared.shown.Shown.{Shown}
use Rattle.rr_compare.specs.Calendars.{Texts, new_calendar, old_calendar}
use Rattle.rr_compare.specs.Facts.{facts_on}
use Rattle.rr_compare.specs.Words.{Asked, Request, comparison, help, version}
use Rattle.rr_compare.specs.declared.status.Status.{Status}
use Rattle.rr_compare.specs.declared.status.Status.TheVariants.{Equal, Differs, Refused, Usage, ReadFault, WriteFault, NoMemory}
use Rattle.rr_compare.specs.declared.words.Form.{Form}
use Rattle.rr_compare.specs.declared.words.Form.TheVariants.{Lines, Json, Html}

-- how the run ends, the bytes that it puts, and how many UIDs state UTC beside local time
pub record Answer : Type 0 where
  pub status : Status
  pub bytes : List ℕ
  pub in_utc : ℕ

-- the number of a status
abbrev pub code_of : Status → ℕ
code_of Equal = 0
code_of Differs = 1
code_of Refused = 2
code_of Usage = 3
code_of ReadFault = 4
code_of WriteFault = 5
code_of NoMemory = 6

-- the status of a run by how its comparison ends
abbrev pub status_by : Ending → Status
status_by ending.Equal = Equal
status_by ending.Differs = Differs
status_by ending.Refused = Refused

-- how many UIDs state UTC beside local time, if this is said of one
abbrev pub utc_count : Option Said → ℕ
utc_count None = 0
utc_count (Some said) = if is_in_utc said then 1 else 0

-- the answer that shows the events of a name
abbrev pub shown_answer : Shown → Answer
shown_answer shown = record { status = status_by shown.status; bytes = shown.text.items; in_utc = utc_count shown.said }

-- ---- all events

-- The bytes tell of these lines in a form, whose events state this in A and in B: the lines that are wanted as text, or all of them as JSON or
-- as a page.
abbrev pub IsPrinted : Form → Facts → (a b : List ℕ → Stated) → List ReportLine → List ℕ → Type 0
IsPrinted Lines facts a b lines bytes = bytes ≡ report_text facts.only_differences lines
IsPrinted Json facts a b lines bytes = bytes ≡ json_text facts lines
IsPrinted Html facts a b lines bytes = IsPageOf facts a b lines bytes

-- the answer tells of these lines in a form
pub record TellsOf (form : Form) (facts : Facts) (a b : List ℕ → Stated) (lines : List ReportLine) (answer : Answer) : Type 0 where
  pub status : answer.status ≡ status_by (status_of (counts_of lines))
  pub in_utc : answer.in_utc ≡ count_said is_in_utc lines
  pub bytes : IsPrinted form facts a b lines answer.bytes

-- the answer is the report of both calendars, whose events are found again by their UID alone or without it too, with titles or without, in
-- the form that is asked for
pub record IsReported (request : Request) (facts : Facts) (a b : ZonedCalendar) (answer : Answer) : Type 0 where
  pub lines : List ReportLine
  pub report : IsReport request.by_uid request.titles a b lines
  pub tells : TellsOf request.form facts a.stated b.stated lines answer

-- ---- one name

-- the answer is what is shown of the events of a name in both calendars
pub record IsNamed (name : List ℕ) (by_uid titles : Bool) (a b : ZonedCalendar) (answer : Answer) : Type 0 where
  pub shown : Shown
  pub shows : IsShownIn by_uid titles a b name shown
  pub is : answer ≡ shown_answer shown

-- what is answered over two calendars: the report, or what is shown of one name
abbrev pub IsOfBoth : Option (List ℕ) → Request → Facts → ZonedCalendar → ZonedCalendar → Answer → Type 0
IsOfBoth None request facts a b answer = IsReported request facts a b answer
IsOfBoth (Some name) request facts a b answer = IsNamed name request.by_uid request.titles a b answer

-- ---- a file that is refused

-- the bytes tell in a form that a whole file is refused
abbrev pub IsRefusalPrinted : Form → Facts → Side → FileRefusal → List ℕ → Type 0
IsRefusalPrinted Lines facts side refusal bytes = bytes ≡ file_refusal_line side refusal
IsRefusalPrinted Json facts side refusal bytes = bytes ≡ json_refusal_text facts side refusal
IsRefusalPrinted Html facts side refusal bytes = IsPageOfRefusal facts side refusal bytes

-- the answer refuses a file
pub record IsRefusalAnswer (form : Form) (facts : Facts) (side : Side) (refusal : FileRefusal) (answer : Answer) : Type 0 where
  pub status : answer.status ≡ Refused
  pub in_utc : answer.in_utc ≡ 0
  pub bytes : IsRefusalPrinted form facts side refusal answer.bytes

-- a fault of a file is answered so; to out of memory nothing is answered
abbrev pub IsFaultAnswer : Form → Facts → Side → FileFault → Answer → Type 0
IsFaultAnswer form facts side (file_fault.Refused refusal) answer = IsRefusalAnswer form facts side refusal answer
IsFaultAnswer form facts side file_fault.NoMemory answer = ⊥

-- ---- two files

-- what is answered over the calendar A and the file B, which is a calendar or is refused
abbrev pub IsComparedWith : Request → Facts → ZonedCalendar → Result ZonedCalendar FileRefusal → Answer → Type 0
IsComparedWith request facts a (Ok b) answer = IsOfBoth request.show request facts a b answer
IsComparedWith request facts a (Err refusal) answer = IsRefusalAnswer request.form facts B refusal answer

-- What is answered over two files, each of which is a calendar or is refused: if A is refused nothing is said of B.
abbrev pub IsCompared : Request → Facts → Result ZonedCalendar FileRefusal → Result ZonedCalendar FileRefusal → Answer → Type 0
IsCompared request facts (Ok a) b answer = IsComparedWith request facts a b answer
IsCompared request facts (Err refusal) b answer = IsRefusalAnswer request.form facts A refusal answer

-- what is asked is answered, over the bytes of the files; the texts of usage, help and the release are no promise
abbrev pub IsAnswer : Option Asked → Texts → Answer → Type 0
IsAnswer None texts answer = answer.status ≡ Usage
IsAnswer (Some help) texts answer = answer.status ≡ Equal
IsAnswer (Some version) texts answer = answer.status ≡ Equal
IsAnswer (Some (comparison request)) texts answer =
    IsCompared request (facts_on request texts) (old_calendar request texts) (new_calendar request texts) answer
