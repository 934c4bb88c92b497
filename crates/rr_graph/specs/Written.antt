-- What is written for an event that repeats (Microsoft Graph, event, patternedRecurrence).
use Rattle.std.specs.Prelude.{◌≡◌, ℤ, ℕ, List, ⊤}
use Rattle.rr_model.specs.Graph.Text.{graph_written}
use Rattle.rr_model.specs.declared.graph.Repeat.{Repeat}
use Rattle.rr_model.specs.declared.graph.Repeat.TheVariants as repeat
use Rattle.rr_model.specs.declared.kind.Kind.{Kind}

-- the event repeats by a pattern
abbrev pub HasPattern : Repeat → Type 0
HasPattern repeat.Once = ⊥
HasPattern (repeat.Pattern pattern range) = ⊤

-- the text is the one that is written for the pattern and the range of a series of this kind and start
abbrev pub IsWrittenText : Kind → ℤ → Repeat → List ℕ → Type 0
IsWrittenText kind start repeat.Once text = ⊥
IsWrittenText kind start (repeat.Pattern pattern range) text = text ≡ graph_written kind start pattern range
