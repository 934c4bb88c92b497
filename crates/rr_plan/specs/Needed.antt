-- That no part of a plan is useless.
use Rattle.std.specs.Prelude.{List, ◌∷◌, ◌++◌, ℤ}
use Rattle.rr_model.specs.Sets.Sketch.{StandsIn}
use Rattle.rr_model.specs.Sets.Verdict.{HaveEqualOccurrences}
use Rattle.rr_model.specs.declared.kind.Kind.{Kind}
use Rattle.rr_model.specs.declared.sketch.Sketch.{Sketch}
use Rattle.rr_plan.specs.Few.{IsOneOf}
use Rattle.rr_plan.specs.Plan.{IsMade, IsSplit}
use Rattle.rr_plan.specs.declared.part.Part.{Part}

-- Each part is needed: the other parts and the single occurrences alone have not all occurrences of the set.
abbrev pub EachPartIsNeeded : Type 0
EachPartIsNeeded =
    (s : Sketch) (before after : List Part) (part : Part) (kind : Kind) (single : List ℤ)
    → IsSplit (StandsIn s) (before ++ part ∷ after) (IsOneOf kind single)
    → HaveEqualOccurrences (IsMade (before ++ after) (IsOneOf kind single)) (StandsIn s) → ⊥
