-- The calendar that an iCalendar text is (RFC 5545, sections 3.4 and 3.6.1).
use Rattle.std.specs.Prelude.{ℕ, Bool, false, ℤ, List, [], ◌∷◌, ◌++◌, map, flat_map, slice_get}
use Rattle.std.specs.Prelude.{Option, None, Some, option_map, option_to_list, unwrap_or, Result, Ok, Err}
use Rattle.rr_length.specs.Lengths.{Lengths}
use Rattle.rr_model.specs.declared.line.Line.{Line}
use Rattle.rr_seam.specs.Stated.{Calendar, Stated, calendar_by}
use Rattle.rr_seam.specs.Words.{Words}
use Rattle.rr_seam.specs.declared.file.FileRefusal.{FileRefusal}
use Rattle.rr_seam.specs.declared.marks.Marks.{Marks}
use Rattle.rr_seam.specs.declared.refusal.KeyRefusal.{KeyRefusal}
use Rattle.rr_seam.specs.declared.words.Language.TheVariants.{Ics}
use Rattle.rr_icalfile.specs.Days.{day_in, reading_of_events, series_in}
use Rattle.rr_icalfile.specs.Edited.{KeyEvents, first_number, key_events}
use Rattle.rr_icalfile.specs.Files.{file_events}
use Rattle.rr_icalfile.specs.Keys.{key_of}
use Rattle.rr_icalfile.specs.Lengths.{lengths_of}
use Rattle.rr_icalfile.specs.Taken.{taken}
use Rattle.rr_icalfile.specs.Words.{event_words, title_of}
use Rattle.rr_icalfile.specs.declared.event.Event.{Event}

-- ---- the place of a refusal by a limit

-- the line of the series' BEGIN, or without a series that of the first instance
abbrev pub first_of : Option Event → List Event → ℕ
first_of (Some event) instances = event.first
first_of None instances = first_number instances

-- the line at which a limit refuses the events of a key
abbrev pub line_of : Result KeyEvents KeyRefusal → ℕ
line_of (Ok all) = first_of all.series all.instances
line_of (Err r) = 0

-- ---- zones

-- the zones of a list of events
abbrev pub zones_of_all : List Event → List (List ℕ)
zones_of_all [] = []
zones_of_all (event ∷ events) = event.zones ++ zones_of_all events

-- the zones of the series, if there is one
abbrev pub zones_of_series : Option Event → List (List ℕ)
zones_of_series None = []
zones_of_series (Some event) = event.zones

-- the zones of the series and the instances
abbrev pub zones_in : KeyEvents → List (List ℕ)
zones_in all = zones_of_series all.series ++ zones_of_all all.instances

-- the zones of the events of a key, unless these are refused
abbrev pub zones_by_events : Result KeyEvents KeyRefusal → List (List ℕ)
zones_by_events (Ok all) = zones_in all
zones_by_events (Err r) = []

-- ---- lengths

-- the lengths of the events of a key, unless these are refused
abbrev pub lengths_by_events : Option ℤ → Result KeyEvents KeyRefusal → Option Lengths
lengths_by_events offset (Ok all) = lengths_of offset all
lengths_by_events offset (Err r) = None

-- ---- the calendar

-- the words of events
abbrev pub words_in : List (List Line) → Words
words_in texts = record { language = Ics; events = map event_words texts }

-- how a key is read whose dates beside moments are read as the occurrences of their days, or not
abbrev pub marks_of_day : Bool → Marks
marks_of_day day = record { until = false; start = false; day = day }

-- what events state together, each by its lines, read leniently or not
abbrev pub stated_by : Option ℤ → Bool → List (List Line) → Stated
stated_by offset lenient texts = record {
  series = series_in (reading_of_events offset lenient (taken texts));
  place = line_of (key_events (taken texts));
  zones = zones_by_events (key_events (taken texts));
  words = words_in texts;
  lengths = lengths_by_events offset (key_events (taken texts));
  marks = marks_of_day (day_in (reading_of_events offset lenient (taken texts)));
}

-- the lines of the event of an index, if there is one, by the lines of each event of the text
abbrev pub text_at : List (List Line) → ℕ → List (List Line)
text_at texts index = option_to_list (slice_get texts index)

-- the lines of the events of indexes
abbrev pub texts_at : List (List Line) → List ℕ → List (List Line)
texts_at texts indexes = flat_map (text_at texts) indexes

-- the title of the event of an index, empty without one
abbrev pub title_at : List (List Line) → ℕ → List ℕ
title_at texts index = unwrap_or (option_map title_of (slice_get texts index)) []

-- the calendar of a text by the lines of each of its events, beside a stated offset, read leniently or not
abbrev pub calendar_of : Option ℤ → Bool → List (List Line) → Calendar
calendar_of offset lenient texts =
    calendar_by (map key_of texts) (λ indexes. stated_by offset lenient (texts_at texts indexes)) (title_at texts)

-- what is read of a file: a stated offset, whether dates beside moments are read as the occurrences of their days, and the lines of each of its
-- events
pub record EventTexts : Type 0 where
  pub offset : Option ℤ
  pub lenient : Bool
  pub texts : List (List Line)

-- the calendar of what is read of a file
abbrev pub calendar_in : EventTexts → Calendar
calendar_in file = calendar_of file.offset file.lenient file.texts

-- the calendar of the events of a text, unless it is refused
abbrev pub calendar_by_events : Option ℤ → Bool → Result (List (List Line)) FileRefusal → Result Calendar FileRefusal
calendar_by_events offset lenient (Ok texts) = Ok (calendar_of offset lenient texts)
calendar_by_events offset lenient (Err r) = Err r

-- The calendar that a file states beside a stated offset of local time from UTC in seconds, or why the whole file is
-- refused. If `lenient` is true, a date beside moments may be read as the occurrences of its day.
abbrev pub calendar : Option ℤ → Bool → List ℕ → Result Calendar FileRefusal
calendar offset lenient bytes = calendar_by_events offset lenient (file_events bytes)
