-- What the search for a pattern of Microsoft Graph answers.
use Rattle.std.specs.Prelude.{Option, None, Some, ℤ}
use Rattle.rr_family.specs.GraphProfile.{IsFirstPattern, IsPatternOf}
use Rattle.rr_model.specs.Moment.{Occurrences}
use Rattle.rr_model.specs.declared.graph.GraphEvent.{GraphEvent}
use Rattle.rr_model.specs.declared.graph.Pattern.{Pattern}
use Rattle.rr_model.specs.declared.graph.Range.{Range}
use Rattle.rr_model.specs.declared.graph.Repeat.{Repeat}
use Rattle.rr_model.specs.declared.graph.Repeat.TheVariants as repeat
use Rattle.rr_model.specs.declared.kind.Kind.{Kind}

-- the event repeats by the first pattern that has the occurrences
abbrev pub IsFirstRepeat : Occurrences → Repeat → Kind → ℤ → Type 0
IsFirstRepeat P repeat.Once kind start = ⊥
IsFirstRepeat P (repeat.Pattern pattern range) kind start = IsFirstPattern P pattern range kind start

-- the event of the first pattern and range that have the occurrences, or none if no pattern has them
abbrev pub IsGraphFound : Occurrences → Option GraphEvent → Type 0
IsGraphFound P None = (pattern : Pattern) (range : Range) (kind : Kind) (start : ℤ) → IsPatternOf P pattern range kind start → ⊥
IsGraphFound P (Some event) = IsFirstRepeat P event.repeat event.kind event.start
