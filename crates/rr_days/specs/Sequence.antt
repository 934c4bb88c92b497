-- The sketch of a day table.
use Rattle.rr_model.specs.declared.sketch.Sketch.{Sketch}
use Rattle.rr_days.specs.Sketched.{sketch_of}
use Rattle.rr_days.specs.declared.day_table.DayTable.{DayTable}

-- the sketch of its numbered days
abbrev pub sketch : DayTable → Sketch
sketch f = sketch_of f.kind f.shapes f.numbers f.first f.settled f.period
