-- Series that are drawn, each as days.
use Rattle.std.specs.Prelude.{⊤, List, [], ◌∷◌}
use Rattle.rr_model.specs.Moment.{Occurrences}
use Rattle.rr_model.specs.Series.Occurrences.{Occurs}
use Rattle.rr_model.specs.Sets.Sketch.{StandsFor, StandsIn}
use Rattle.rr_model.specs.declared.rule.Series.{Series}
use Rattle.rr_days.specs.Sequence.{sketch}
use Rattle.rr_drill.specs.declared.drawn_days.DrawnDays.{DrawnDays}

-- the occurrences that the folded days of a drawn series have
abbrev pub stands : DrawnDays → Occurrences
stands days = StandsIn (sketch days.folded)

-- the days stand for the occurrences of the series
abbrev pub IsFoldOf : DrawnDays → Series → Type 0
IsFoldOf days series = StandsFor (sketch days.folded) (Occurs series)

-- each stands for the series at its place
abbrev pub AreFoldsOf : List DrawnDays → List Series → Type 0
AreFoldsOf [] [] = ⊤
AreFoldsOf (days ∷ rest) (series ∷ others) = IsFoldOf days series × AreFoldsOf rest others
AreFoldsOf [] (series ∷ others) = ⊥
AreFoldsOf (days ∷ rest) [] = ⊥
