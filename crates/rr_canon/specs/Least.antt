-- What a least sequence keeps.
use Rattle.std.specs.Prelude.{ℕ, Option, ℤ}
use Rattle.rr_model.specs.Sets.Descriptor.{Described}
use Rattle.rr_model.specs.declared.sketch.Sketch.{Sketch}
use Rattle.rr_canon.specs.Kept.{number_kept, sketch_of}
use Rattle.rr_canon.specs.Said.{said_of}
use Rattle.rr_canon.specs.declared.least_seq.LeastSeq.{LeastSeq}

-- the sketch that a least sequence keeps
abbrev pub least_sketch : LeastSeq → Sketch
least_sketch l = sketch_of l.kind l.sets l.before l.settled l.period l.cycle

-- the number of the time set of a day
abbrev pub least_number : LeastSeq → ℤ → Option ℕ
least_number l day = number_kept l.before l.settled l.period l.cycle day

-- what a descriptor says of it, if this is the first occupied day
abbrev pub least_said : LeastSeq → Option ℤ → Option Described
least_said l first = said_of l.kind l.sets l.before l.settled l.period l.cycle first
