-- How a series that is at odds with RFC 5545 is read (RFC 5545, sections 3.3.10, 3.8.4.4, 3.8.5.1 and 3.8.5.3).
use Rattle.std.specs.Prelude.{false, ◌||◌}
use Rattle.rr_seam.specs.declared.marks.Marks.{Marks}

-- all is read as it stands
abbrev pub no_marks : Marks
no_marks = record { until = false; start = false; day = false }

-- the readings of either
abbrev pub marks_of_both : Marks → Marks → Marks
marks_of_both a b = record { until = a.until || b.until; start = a.start || b.start; day = a.day || b.day }
