-- The first occurrence of an event, and which recurrences have none (Microsoft Graph, recurrencePattern and
-- recurrenceRange).
use Rattle.std.specs.Prelude.{◌≡◌, ◌↔◌, ℤ, ◌≤ℤ◌, Err}
use Rattle.rr_model.specs.Moment.Years.{IsInYears}
use Rattle.rr_model.specs.declared.kind.Kind.TheVariants.{Days}
use Rattle.rr_model.specs.declared.refusal.Refusal.TheVariants.{NoOccurrence}
use Rattle.rr_model.specs.Graph.Counterpart.{series_of_graph}
use Rattle.rr_model.specs.Graph.Occurrences.{IsGraphOccurrence, IsRepeatDay}
use Rattle.rr_model.specs.Graph.Reading.{Recurrence, repeat_with_occurrence}
use Rattle.rr_model.specs.Graph.Validity.{IsValidGraphEvent}
use Rattle.rr_model.specs.declared.graph.GraphEvent.{GraphEvent}
use Rattle.rr_graph.specs.Ranges.{IsValidRange}

-- t is an occurrence of the event, and none is before it
pub record IsFirstOccurrence (event : GraphEvent) (t : ℤ) : Type 0 where
  pub occurs : IsGraphOccurrence event event.kind t
  pub none_before : (other : ℤ) → IsGraphOccurrence event event.kind other → t ≤ℤ other

-- The counterpart of a valid event starts at the event's first occurrence.
abbrev pub GraphCounterpartStartsFirst : Type 0
GraphCounterpartStartsFirst = (event : GraphEvent) → IsValidGraphEvent event → IsFirstOccurrence event (series_of_graph event).start

-- A recurrence is refused for want of an occurrence exactly if no day of the years 1 to 9999 is one.
abbrev pub RefusedWhereNoneOccurs : Type 0
RefusedWhereNoneOccurs =
    (recurrence : Recurrence) → IsValidRange recurrence.range
    → (repeat_with_occurrence recurrence ≡ Err NoOccurrence) ↔ ((d : ℤ) → IsInYears Days d → IsRepeatDay recurrence.pattern recurrence.range d → ⊥)
