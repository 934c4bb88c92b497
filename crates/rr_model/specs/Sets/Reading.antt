-- The sketch that a descriptor describes: what its numbers say, expanded again.
use Rattle.std.specs.Prelude.{ℕ, List, [], ◌∷◌, ◌++◌, replicate, get_or, Option, Some, None, ℤ, pos, ◌+ℤ◌}
use Rattle.rr_model.specs.Sets.Descriptor.{Step, Run, Ending, Described}
use Rattle.rr_model.specs.declared.kind.Kind.TheVariants.{Days}
use Rattle.rr_model.specs.declared.sketch.DayShape.{DayShape}
use Rattle.rr_model.specs.declared.sketch.Sketch.{Sketch}

-- the steps of runs
abbrev pub steps_of_runs : List Run → List Step
steps_of_runs [] = []
steps_of_runs (run ∷ runs) = replicate run.count (record { gap = run.gap; set = run.set }) ++ steps_of_runs runs

-- the occupied days after the day `from`, by these steps
abbrev pub days_from : List (List ℕ) → ℤ → List Step → List DayShape
days_from sets from [] = []
days_from sets from (step ∷ steps) =
    record { day = from +ℤ pos step.gap; times = get_or sets step.set [] } ∷ days_from sets (from +ℤ pos step.gap) steps

-- the day after the last of these; if there are none, this one
abbrev pub day_after : ℤ → List DayShape → ℤ
day_after from [] = from
day_after from (s ∷ ss) = day_after (s.day +ℤ pos 1) ss

-- the sketch with this ending: a finite set settles on the day after its last
abbrev pub sketch_with : Described → Option Ending → Sketch
sketch_with d None = record {
  kind = d.kind;
  before = days_from d.sets d.first (steps_of_runs d.before);
  settled = day_after d.first (days_from d.sets d.first (steps_of_runs d.before));
  period = 1;
  cycle = [];
}
sketch_with d (Some e) = record {
  kind = d.kind;
  before = days_from d.sets d.first (steps_of_runs d.before);
  settled = e.settled;
  period = e.period;
  cycle = days_from d.sets e.settled (steps_of_runs e.cycle);
}

-- the sketch that a description of a set gives, the empty one if there is none
abbrev pub sketch_described : Option Described → Sketch
sketch_described None = record { kind = Days; before = []; settled = pos 0; period = 1; cycle = [] }
sketch_described (Some d) = sketch_with d d.ending
