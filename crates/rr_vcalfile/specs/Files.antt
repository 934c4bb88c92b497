-- The calendar that a file of vCalendar 1.0 is.
use Rattle.std.specs.Prelude.{ℕ, ℤ, List, map, Option, Result, Ok, Err}
use Rattle.rr_model.specs.declared.line.Line.{Line}
use Rattle.rr_seam.specs.Stated.{Calendar, calendar_by}
use Rattle.rr_seam.specs.declared.file.FileRefusal.{FileRefusal}
use Rattle.rr_vcalfile.specs.Events.{file_events}
use Rattle.rr_vcalfile.specs.Parts.{lines_in}
use Rattle.rr_vcalfile.specs.Stated.{calendar_of, stated_in, title_at}
use Rattle.rr_vcalfile.specs.declared.file.VcalFile.{VcalFile}

-- the calendar of the events, or why their file is refused
abbrev pub calendar_or : Option ℤ → Result (List (List Line)) FileRefusal → Result Calendar FileRefusal
calendar_or offset (Ok events) = Ok (calendar_of offset events)
calendar_or offset (Err r) = Err r

-- The calendar that the bytes of a file are, beside a stated offset of local time from UTC in seconds, or why the whole file is refused.
abbrev pub calendar : Option ℤ → List ℕ → Result Calendar FileRefusal
calendar offset bytes = calendar_or offset (file_events bytes)

-- the calendar that a file which was read is
abbrev pub calendar_in : VcalFile → Calendar
calendar_in file =
    calendar_by file.keys.items (stated_in file.offset (map lines_in file.parts.items)) (title_at (map lines_in file.parts.items))
