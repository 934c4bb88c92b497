-- The events of an iCalendar text as parts of it.
use Rattle.std.specs.Prelude.{List}
use Rattle.rr_model.specs.declared.line.Line.{Line}
use Rattle.rr_events.specs.Finding.{lines_in}
use Rattle.rr_icalfile.specs.declared.part.Part.{Part}

-- the lines of an event
abbrev pub lines_of : Part → List Line
lines_of part = lines_in part.piece
