-- A set has exactly one least sketch.
use Rattle.std.specs.Prelude.{◌≡◌, ℤ, Option}
use Rattle.rr_model.specs.Sets.Least.{IsLeastSketch}
use Rattle.rr_model.specs.Sets.Sketch.{IsDaySequence, IsFirstDay, StandsIn}
use Rattle.rr_model.specs.Sets.Verdict.{HaveEqualOccurrences}
use Rattle.rr_model.specs.declared.sketch.Sketch.{Sketch}

-- the one least sketch with the occurrences of this one
pub record HasOneLeastSketch (s : Sketch) : Type 0 where
  pub sketch : Sketch
  pub least : IsLeastSketch sketch
  pub same : HaveEqualOccurrences (StandsIn s) (StandsIn sketch)
  pub only : (u : Sketch) → IsLeastSketch u → HaveEqualOccurrences (StandsIn s) (StandsIn u) → u ≡ sketch

-- Each day sequence has exactly one least sketch with its occurrences.
abbrev pub EachHasOneLeastSketch : Type 0
EachHasOneLeastSketch = (s : Sketch) (first : Option ℤ) → IsDaySequence s → IsFirstDay s first → HasOneLeastSketch s
