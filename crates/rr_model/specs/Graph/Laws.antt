-- Laws of Graph events: the counterpart has the same occurrences, and what is written is read back.
use Rattle.std.specs.Prelude.{◌≡◌, ◌↔◌, IsTrue, ℤ, None, Ok}
use Rattle.rr_model.specs.declared.kind.Kind.{Kind}
use Rattle.rr_model.specs.Graph.Occurrences.{is_pattern_day, IsGraphOccurrence}
use Rattle.rr_model.specs.Graph.Counterpart.{series_of_graph}
use Rattle.rr_model.specs.Graph.Reading.{reads_graph}
use Rattle.rr_model.specs.Graph.Text.{graph_written}
use Rattle.rr_model.specs.Series.Occurrences.{Occurs}
use Rattle.rr_model.specs.declared.graph.GraphEvent.{GraphEvent}
use Rattle.rr_model.specs.declared.graph.Pattern.{Pattern}
use Rattle.rr_model.specs.declared.graph.Range.{Range}
use Rattle.rr_model.specs.declared.graph.Repeat.TheVariants as repeat
use Rattle.rr_model.specs.Graph.Validity.{IsValidGraphEvent}

-- A valid event and its counterpart have the same occurrences, the first of which is the counterpart's start.
abbrev pub GraphCounterpartHasOccurrences : Type 0
GraphCounterpartHasOccurrences =
    (event : GraphEvent) (kind : Kind) (t : ℤ) → IsValidGraphEvent event → IsGraphOccurrence event kind t ↔ Occurs (series_of_graph event) kind t

-- the day of a range's start is one of the pattern
abbrev pub StartsOnPattern : Pattern → Range → Type 0
StartsOnPattern pattern range = IsTrue (is_pattern_day pattern range.start_day range.start_day)

-- A valid pattern and range are read back from their text.
abbrev pub GraphIsReadBack : Type 0
GraphIsReadBack =
    (kind : Kind) (start : ℤ) (pattern : Pattern) (range : Range)
    → IsValidGraphEvent (record { kind = kind; start = start; repeat = repeat.Pattern pattern range }) → StartsOnPattern pattern range
    → reads_graph None (graph_written kind start pattern range) ≡ Ok (record { kind = kind; start = start; repeat = repeat.Pattern pattern range })
