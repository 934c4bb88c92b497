-- The bytes of the files that were fetched.
use Rattle.rr_compare.specs.Calendars.{Texts}
use Rattle.rr_calendars.specs.declared.work.Files.{Files}

-- the bytes of the files that a value of the program has
abbrev pub texts_of : Files → Texts
texts_of files = record { old = files.old.items; new = files.new.items; zones = files.zones.items }
