-- The calendar that a list of events of Microsoft Graph is beside a stated offset, by which moments in UTC are put into local time if no zone does.
use Rattle.std.specs.Prelude.{ℕ, Bool, ◌&&◌, if◌then◌else◌, ℤ, List, [], map, Option, Result, Ok, Err, bytes_eq, codes}
use Rattle.std.specs.Option.{is_some}
use Rattle.rr_graphfile.specs.Files.{calendar as stated_calendar, calendar_in as stated_calendar_in}
use Rattle.rr_seam.specs.Stated.{Calendar, Stated, calendar_by}
use Rattle.rr_seam.specs.declared.file.FileRefusal.{FileRefusal}
use Rattle.rr_trip.specs.Zoned.{Meaning}
use Rattle.rr_compare.specs.declared.graph.GraphCalendar.{GraphCalendar}

-- a zone: none for UTC, if moments in UTC are put into local time
abbrev pub turned_zone : Bool → List ℕ → List ℕ
turned_zone is_turned zone = if is_turned && bytes_eq zone (codes "Z") then [] else zone

-- what is stated, with these zones
abbrev pub turned_stated : Bool → Stated → Stated
turned_stated is_turned stated = record {
  series = stated.series;
  place = stated.place;
  zones = map (turned_zone is_turned) stated.zones;
  words = stated.words;
  lengths = stated.lengths;
  marks = stated.marks;
}

-- a calendar with these zones
abbrev pub turned_calendar : Bool → Calendar → Calendar
turned_calendar is_turned calendar = calendar_by calendar.keys (λ indexes. turned_stated is_turned (calendar.stated indexes)) calendar.titles

-- a calendar with these zones, or why its file is refused
abbrev pub turned : Bool → Result Calendar FileRefusal → Result Calendar FileRefusal
turned is_turned (Ok calendar) = Ok (turned_calendar is_turned calendar)
turned is_turned (Err refusal) = Err refusal

-- the calendar that a text is beside what the names of zones mean and a stated offset, or why it is refused
abbrev pub calendar : Meaning → Option ℤ → List ℕ → Result Calendar FileRefusal
calendar means offset text = turned (is_some offset) (stated_calendar means offset text)

-- the calendar that was read
abbrev pub calendar_in : GraphCalendar → Calendar
calendar_in calendar = turned_calendar calendar.is_turned (stated_calendar_in calendar.file)
