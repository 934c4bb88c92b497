-- The answer that an outcome of the program is, and the calendar that a text of it is.
use Rattle.std.specs.Prelude.{Result}
use Rattle.rr_seam.specs.declared.file.FileRefusal.{FileRefusal}
use Rattle.rr_trip.specs.Zoned.{ZonedCalendar, zoned}
use Rattle.rr_compare.specs.Answer.{Answer}
use Rattle.rr_compare.specs.Calendars.{Texts, calendar_in, calendar_of, with_meaning}
use Rattle.rr_compare.specs.Names.{meaning_of_names}
use Rattle.rr_compare.specs.declared.answers.CalendarText.{CalendarText}
use Rattle.rr_compare.specs.declared.answers.Outcome.{Outcome}
use Rattle.rr_compare.specs.declared.answers.ZonedFile.{ZonedFile}
use Rattle.rr_compare.specs.declared.texts.Texts.{Texts as GivenTexts}

-- the status and the bytes of an outcome, and its count
abbrev pub outcome_is : Outcome → Answer
outcome_is outcome = record { status = outcome.status; bytes = outcome.text.items; in_utc = outcome.in_utc }

-- the bytes of the files that a value of the program has
abbrev pub texts_in : GivenTexts → Texts
texts_in texts = record { old = texts.old.now; new = texts.new.now; zones = texts.zones.now }

-- the calendar that a text is, with what the names of its zones mean, or why it is refused
abbrev pub text_calendar : CalendarText → Result ZonedCalendar FileRefusal
text_calendar text =
    with_meaning (calendar_of text.language text.is_lenient (meaning_of_names text.names) text.names.offset text.bytes.now) (meaning_of_names text.names)

-- the calendar that was read, with what the names of its zones mean
abbrev pub zoned_in : ZonedFile → ZonedCalendar
zoned_in calendar = zoned (calendar_in calendar.file.now) (meaning_of_names calendar.names.now)
