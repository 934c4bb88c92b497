-- Events that begin at their first occurrence (Microsoft Graph, recurrenceRange, startDate).
use Rattle.std.specs.Prelude.{◌↔◌, ℤ}
use Rattle.rr_model.specs.Moment.{day_part}
use Rattle.rr_model.specs.declared.kind.Kind.{Kind}
use Rattle.rr_model.specs.Graph.Counterpart.{series_of_graph}
use Rattle.rr_model.specs.Graph.Occurrences.{IsGraphOccurrence}
use Rattle.rr_model.specs.Graph.Validity.{IsValidGraphEvent}
use Rattle.rr_model.specs.Series.Soundness.{IsSound}
use Rattle.rr_model.specs.declared.graph.GraphEvent.{GraphEvent}
use Rattle.rr_model.specs.declared.graph.Repeat.{Repeat}
use Rattle.rr_model.specs.declared.graph.Repeat.TheVariants as repeat
use Rattle.rr_pattern.specs.Begun.{begun_on}

-- the repetition of an event, with the range of its pattern begun on `day`
abbrev pub repeat_from : Repeat → ℤ → Repeat
repeat_from repeat.Once day = repeat.Once
repeat_from (repeat.Pattern pattern range) day = repeat.Pattern pattern (begun_on range day)

-- the event with another start; its pattern begins on the day of that start
abbrev pub started_at : GraphEvent → ℤ → GraphEvent
started_at event start = record { kind = event.kind; start = start; repeat = repeat_from event.repeat (day_part event.kind start) }

-- The counterpart of a valid event is sound: it is valid, and its rule chooses its start and does not end before it.
abbrev pub GraphCounterpartIsSound : Type 0
GraphCounterpartIsSound = (event : GraphEvent) → IsValidGraphEvent event → IsSound (series_of_graph event)

-- A valid event keeps its occurrences if it starts at the first of them, the start of its counterpart.
abbrev pub MovingStartKeepsOccurrences : Type 0
MovingStartKeepsOccurrences =
    (event : GraphEvent) (kind : Kind) (t : ℤ) → IsValidGraphEvent event
    → IsGraphOccurrence event kind t ↔ IsGraphOccurrence (started_at event (series_of_graph event).start) kind t
