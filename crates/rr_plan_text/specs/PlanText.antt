-- The text of a plan: compact JSON in one line, the names of members in rising order of their bytes, and a line feed.
use Rattle.std.specs.Prelude.{◌≡◌, ℕ, ℤ, List, [], ◌∷◌, ◌++◌, All, codes, map, None, Ok}
use Rattle.serde_json.specs.Data.{Data, Items, array, member, no_members, null, object, string}
use Rattle.serde_json.specs.View.{items_of}
use Rattle.serde_json.specs.Written.{compact_text}
use Rattle.rr_graph.specs.Written.{HasPattern}
use Rattle.rr_model.specs.Graph.Reading.{reads_graph}
use Rattle.rr_model.specs.Graph.Text.{event_data}
use Rattle.rr_model.specs.Graph.Validity.{IsValidGraphEvent}
use Rattle.rr_model.specs.Text.Moments.{extended_text}
use Rattle.rr_model.specs.declared.graph.GraphEvent.{GraphEvent}
use Rattle.rr_model.specs.declared.graph.Repeat.{Repeat}
use Rattle.rr_model.specs.declared.graph.Repeat.TheVariants as repeat
use Rattle.rr_model.specs.declared.kind.Kind.{Kind}
use Rattle.rr_plan.specs.Plan.{BeginsOnPattern}
use Rattle.rr_plan.specs.declared.part.Part.{Part}
use Rattle.rr_text.specs.Printed.{IsPrintableAt}

-- ---- JSON

-- a date or a moment, as `list` prints it
abbrev pub moment_json : Kind → ℤ → Data
moment_json kind t = string (extended_text kind t)

-- dates or moments
abbrev pub moments_items : Kind → List ℤ → Items
moments_items kind ts = items_of (map (moment_json kind) ts)

-- an event that repeats, as it is written alone (Microsoft Graph, event); one that does not repeat is not written
abbrev pub repeating_json : Kind → ℤ → Repeat → Data
repeating_json kind start repeat.Once = null
repeating_json kind start (repeat.Pattern pattern range) = event_data kind start pattern range

-- an event that repeats
abbrev pub event_json : GraphEvent → Data
event_json event = repeating_json event.kind event.start event.repeat

-- a series, with those of its instances that are to be cancelled
abbrev pub part_json : Part → Data
part_json part = object
    (member (codes "cancelled") (array (moments_items part.event.kind part.cancelled)) (member (codes "event") (event_json part.event) no_members))

-- the series of a plan
abbrev pub parts_items : List Part → Items
parts_items parts = items_of (map part_json parts)

-- the series, and the single events
abbrev pub plan_json : List Part → Kind → List ℤ → Data
plan_json parts kind single = object
    (member (codes "parts") (array (parts_items parts)) (member (codes "single") (array (moments_items kind single)) no_members))

-- ---- texts

-- the text of a plan
unfoldable pub plan_text : List Part → Kind → List ℤ → List ℕ
plan_text parts kind single = compact_text (plan_json parts kind single) ++ 10 ∷ []

-- the text of an event of a plan, on a line of its own
abbrev pub event_text : GraphEvent → List ℕ
event_text event = compact_text (event_json event) ++ 10 ∷ []

-- ---- what can be written

-- the event is valid and repeats, and each cancelled instance can be printed
pub record IsWritable (part : Part) : Type 0 where
  pub valid : IsValidGraphEvent part.event
  pub repeats : HasPattern part.event.repeat
  pub cancelled : All (IsPrintableAt part.event.kind) part.cancelled

-- ---- what is read back

-- A valid event whose range begins on a day of its pattern is read back from its text in a plan.
abbrev pub PlanEventIsReadBack : Type 0
PlanEventIsReadBack =
    (event : GraphEvent) → IsValidGraphEvent event → BeginsOnPattern event.repeat → reads_graph None (event_text event) ≡ Ok event
