-- What the events of a key state in a list of events (Microsoft Graph, event: exceptionOccurrences and cancelledOccurrences).
use Rattle.std.specs.Prelude.{ℕ, ◌+◌, Bool, true, false, if◌then◌else◌, ℤ, List, [], ◌∷◌, ◌++◌, codes, slice_get}
use Rattle.std.specs.Prelude.{Option, None, Some, option_and_then, option_map, ok_or, Result, Ok, Err}
use Rattle.std.specs.Option.{is_some}
use Rattle.serde_json.specs.Data.{Data}
use Rattle.serde_json.specs.Find.{as_str}
use Rattle.rr_model.specs.Graph.Counterpart.{series_of_graph}
use Rattle.rr_model.specs.Graph.Members.{text_in}
use Rattle.rr_model.specs.Graph.Reading.{graph_moment, is_all_day, turned_start}
use Rattle.rr_model.specs.Moment.{day_part, moment_at, second_part}
use Rattle.rr_model.specs.declared.graph.GraphEvent.{GraphEvent}
use Rattle.rr_model.specs.declared.graph.Repeat.{Repeat}
use Rattle.rr_model.specs.declared.graph.Repeat.TheVariants as repeat
use Rattle.rr_model.specs.declared.kind.Kind.{Kind}
use Rattle.rr_model.specs.declared.kind.Kind.TheVariants.{Days, Moments}
use Rattle.rr_model.specs.declared.refusal.Member.TheVariants as of
use Rattle.rr_model.specs.declared.refusal.Refusal.TheVariants.{BadMember, MixedKinds, NoStart, UtcMoment}
use Rattle.rr_model.specs.declared.rule.Series.{Series}
use Rattle.rr_model.specs.declared.stamp.Stamp.{Stamp}
use Rattle.rr_seam.specs.Marks.{no_marks}
use Rattle.rr_seam.specs.Stated.{Calendar, Stated}
use Rattle.rr_seam.specs.Words.{Words}
use Rattle.rr_seam.specs.declared.words.Language.TheVariants.{Graph}
use Rattle.rr_seam.specs.Steps.{◌>=>◌, at_event, key_in_turn}
use Rattle.rr_seam.specs.declared.refusal.KeyRefusal.{KeyRefusal}
use Rattle.rr_seam.specs.declared.refusal.KeyRefusal.TheVariants as refusal
use Rattle.rr_moved.specs.Moved.{Shifts, edited_moved, no_shifts, with_moment, with_start_at}
use Rattle.rr_graphfile.specs.Items.{array_in, elements_or_none, instance_day, is_cancelled, keys_in, range_zone, read_event, repeats}
use Rattle.rr_graphfile.specs.Items.{title_of, type_of, zone_named}
use Rattle.rr_graphfile.specs.Lengths.{lengths_of}
use Rattle.rr_graphfile.specs.Turning.{Meaning, Turning, offset_in, start_offset, turned_zone, turning_of}
use Rattle.rr_graphfile.specs.declared.item.EventType.{EventType}
use Rattle.rr_graphfile.specs.declared.item.EventType.TheVariants.{Single, Master, Occurrence, Exception}

-- ---- the events of a key

-- an event with its number in the list, from 1
pub record Placed : Type 0 where
  pub place : ℕ
  pub event : Data

-- the series of a key, if it has one, and the number of its first instance that stands alone
pub record Gathered : Type 0 where
  pub series : Option Placed
  pub instance : Option ℕ

-- no event is gathered yet
abbrev pub none_gathered : Gathered
none_gathered = record { series = None; instance = None }

-- the series of a key; a second one is refused
abbrev pub with_series : Gathered → Placed → Result Gathered KeyRefusal
with_series gathered placed =
    if is_some gathered.series then Err (refusal.TwoSeries placed.place) else Ok (record gathered { series = Some placed })

-- an instance that stands alone says nothing that its series does not list
abbrev pub with_instance_at : Gathered → ℕ → Gathered
with_instance_at gathered place = if is_some gathered.instance then gathered else record gathered { instance = Some place }

-- one event more, by its type
abbrev pub with_typed : Gathered → Placed → Option EventType → Result Gathered KeyRefusal
with_typed gathered placed None = Err (refusal.NoType placed.place)
with_typed gathered placed (Some Single) = with_series gathered placed
with_typed gathered placed (Some Master) = with_series gathered placed
with_typed gathered placed (Some Occurrence) = Ok (with_instance_at gathered placed.place)
with_typed gathered placed (Some Exception) = Ok (with_instance_at gathered placed.place)

-- one event more
abbrev pub with_placed : Gathered → Placed → Result Gathered KeyRefusal
with_placed gathered placed = with_typed gathered placed (type_of placed.event)

-- the event of an index more, if the list has one
abbrev pub with_found : Gathered → ℕ → Option Data → Result Gathered KeyRefusal
with_found gathered i None = Ok gathered
with_found gathered i (Some event) = with_placed gathered (record { place = i + 1; event = event })

-- the event of an index more; an index beyond the last event adds nothing
abbrev pub with_index : List Data → Gathered → ℕ → Result Gathered KeyRefusal
with_index items gathered i = with_found gathered i (slice_get items i)

-- the series among the events of these indexes, and the first instance that stands alone
abbrev pub gathered_at : List Data → List ℕ → Result Gathered KeyRefusal
gathered_at items indexes = key_in_turn (with_index items) none_gathered indexes

-- ---- the instances that a series lists (Microsoft Graph, event: exceptionOccurrences, cancelledOccurrences)

-- the cancelled and the moved instances that a series lists
pub record Lists : Type 0 where
  pub cancelled : List Data
  pub exceptions : List Data

-- both lists, or that one is missing
abbrev pub lists_by : ℕ → Option (List Data) → Option (List Data) → Result Lists KeyRefusal
lists_by place (Some cancelled) (Some exceptions) = Ok (record { cancelled = cancelled; exceptions = exceptions })
lists_by place cancelled exceptions = Err (refusal.NotExpanded place)

-- the instances that an event lists, which a series has to, also if it has none
abbrev pub lists_in : ℕ → Data → Result Lists KeyRefusal
lists_in place event =
    if repeats event then lists_by place (array_in (codes "cancelledOccurrences") event) (array_in (codes "exceptionOccurrences") event)
    else Ok (record { cancelled = []; exceptions = [] })

-- the moment of an occurrence of a series on a day; a pattern has one a day, at the second of the start
abbrev pub moment_on : Kind → ℤ → ℤ → ℤ
moment_on kind start day = moment_at kind day (second_part kind start)

-- the moment that the id of an instance names
abbrev pub moment_by_id : ℕ → Kind → ℤ → Option (List ℕ) → Result ℤ KeyRefusal
moment_by_id place kind start id =
    ok_or (option_map (moment_on kind start) (option_and_then instance_day id)) (refusal.BadInstance place)

-- a cancelled instance is taken out
abbrev pub with_cancelled : ℕ → Kind → ℤ → Shifts → Data → Result Shifts KeyRefusal
with_cancelled place kind start shifts id = moment_by_id place kind start (as_str id) >=> with_moment place shifts

-- the occurrence on the day on which a moment lies
abbrev pub moment_near : Kind → ℤ → ℤ → ℤ
moment_near kind start at = moment_on kind start (day_part Moments at)

-- the moment at which an instance was to be, which is stated in UTC: that of its day by this offset
abbrev pub moment_by_offset : ℕ → Kind → ℤ → ℤ → Option ℤ → Result ℤ KeyRefusal
moment_by_offset place kind start at None = Err (refusal.Event UtcMoment place)
moment_by_offset place kind start at (Some offset) =
    ok_or (option_map (moment_near kind start) (turned_start true (Some offset) at)) (refusal.BadInstance place)

-- the moment at which an instance was to be, turned as those of its series
abbrev pub moment_in_utc : Turning → ℕ → Kind → ℤ → Option Stamp → Result ℤ KeyRefusal
moment_in_utc turning place kind start None = Err (refusal.BadInstance place)
moment_in_utc turning place kind start (Some stamp) = moment_by_offset place kind start stamp.at (offset_in turning stamp.at)

-- by an instance's occurrenceId, and if that is missing by its originalStart, the moment at which it was to be
abbrev pub original_by : Turning → ℕ → Kind → ℤ → Data → Option (List ℕ) → Result ℤ KeyRefusal
original_by turning place kind start event (Some id) = moment_by_id place kind start (Some id)
original_by turning place kind start event None =
    moment_in_utc turning place kind start (option_and_then graph_moment (text_in (codes "originalStart") event))

-- the moment at which an instance was to be
abbrev pub original_of : Turning → ℕ → Kind → ℤ → Data → Result ℤ KeyRefusal
original_of turning place kind start event = original_by turning place kind start event (text_in (codes "occurrenceId") event)

-- the two kinds are one
abbrev pub is_same_kind : Kind → Kind → Bool
is_same_kind Days Days = true
is_same_kind Moments Moments = true
is_same_kind a b = false

-- a start of the kind of the series, of an instance that has no pattern
abbrev pub start_by : ℕ → Kind → GraphEvent → Repeat → Result ℤ KeyRefusal
start_by place kind event (repeat.Pattern pattern range) = Err (refusal.TwoSeries place)
start_by place kind event repeat.Once = if is_same_kind event.kind kind then Ok event.start else Err (refusal.Event (MixedKinds place) place)

-- what an event states of itself, at this place
abbrev pub event_at : Turning → ℕ → Data → Result GraphEvent KeyRefusal
event_at turning place event = at_event place (read_event (start_offset turning event) event)

-- the start of an instance
abbrev pub start_of : Turning → ℕ → Kind → Data → Result ℤ KeyRefusal
start_of turning place kind event = event_at turning place event >=> λ read. start_by place kind read read.repeat

-- the start of an instance is put in
abbrev pub with_start_of : Turning → ℕ → Kind → Shifts → Data → Result Shifts KeyRefusal
with_start_of turning place kind shifts event = start_of turning place kind event >=> λ at. Ok (with_start_at shifts at)

-- the start of an instance is put in, unless it is cancelled
abbrev pub with_start : Turning → ℕ → Kind → Shifts → Data → Result Shifts KeyRefusal
with_start turning place kind shifts event = if is_cancelled event then Ok shifts else with_start_of turning place kind shifts event

-- a moved instance is taken out
abbrev pub taken_out : Turning → ℕ → Kind → ℤ → Shifts → Data → Result Shifts KeyRefusal
taken_out turning place kind start shifts event = original_of turning place kind start event >=> with_moment place shifts

-- a moved instance is taken out and put in
abbrev pub with_exception : Turning → ℕ → Kind → ℤ → Shifts → Data → Result Shifts KeyRefusal
with_exception turning place kind start shifts event = taken_out turning place kind start shifts event >=> λ more. with_start turning place kind more event

-- what the instances that a series lists take out and put in, the cancelled ones first
abbrev pub shifts_of : Turning → ℕ → Kind → ℤ → Lists → Result Shifts KeyRefusal
shifts_of turning place kind start lists =
    key_in_turn (with_cancelled place kind start) no_shifts lists.cancelled >=> λ shifts.
    key_in_turn (with_exception turning place kind start) shifts lists.exceptions

-- what the instances that an event lists take out and put in
abbrev pub event_shifts : Turning → ℕ → Kind → ℤ → Data → Result Shifts KeyRefusal
event_shifts turning place kind start event = lists_in place event >=> shifts_of turning place kind start

-- ---- the series of a key

-- a series master has a recurrence
abbrev pub judged_master : ℕ → Option EventType → Bool → Result (Unit {0}) KeyRefusal
judged_master place (Some Master) false = Err (refusal.Event (BadMember of.Recurrence) place)
judged_master place type repeating = Ok tt

-- what a series states of itself
abbrev pub master_of : Turning → Placed → Result GraphEvent KeyRefusal
master_of turning placed =
    judged_master placed.place (type_of placed.event) (repeats placed.event) >=> λ judged. event_at turning placed.place placed.event

-- the series of RFC 5545 that an event is, with the instances that it lists
abbrev pub with_instances : Turning → Placed → GraphEvent → Result Series KeyRefusal
with_instances turning placed read =
    event_shifts turning placed.place read.kind read.start placed.event >=> λ shifts.
    edited_moved (is_cancelled placed.event) placed.place (series_of_graph read) shifts

-- what a series states with the instances that it lists
abbrev pub series_of : Turning → Placed → Result Series KeyRefusal
series_of turning placed = master_of turning placed >=> with_instances turning placed

-- ---- zones

-- the zones of moved instances, unless they are cancelled
abbrev pub zones_of_exceptions : Turning → List Data → List (List ℕ)
zones_of_exceptions turning [] = []
zones_of_exceptions turning (d ∷ ds) =
    if is_cancelled d then zones_of_exceptions turning ds else turned_zone turning d ∷ zones_of_exceptions turning ds

-- the zone of the days of a range, if it is stated
abbrev pub range_zones : List ℕ → List (List ℕ)
range_zones [] = []
range_zones (b ∷ bs) = zone_named (Some (b ∷ bs)) ∷ []

-- the zones of the days of a series; dates have none
abbrev pub day_zones : Data → List (List ℕ)
day_zones event = if is_all_day event then [] else range_zones (range_zone event)

-- the zones of a series: that of its start, that of its range, and those of its moved instances, which are turned as the start is
abbrev pub zones_of : Turning → Data → List (List ℕ)
zones_of turning event =
    turned_zone turning event ∷ day_zones event ++ zones_of_exceptions turning (elements_or_none (array_in (codes "exceptionOccurrences") event))

-- ---- the calendar

-- events of this language are in no words that are compared
abbrev pub no_words : Words
no_words = record { language = Graph; events = [] }

-- what a series states, which a limit refuses at its own place; beside its moments stand no dates
abbrev pub series_turned : Turning → Placed → Stated
series_turned turning placed = record {
  series = series_of turning placed;
  place = placed.place;
  zones = zones_of turning placed.event;
  words = no_words;
  lengths = lengths_of turning placed.event;
  marks = no_marks;
}

-- what a series states, its moments of UTC turned by what the name of its zone means
abbrev pub series_stated : Meaning → Option ℤ → Placed → Stated
series_stated means offset placed = series_turned (turning_of means offset placed.event) placed

-- what is refused states no series, and no length
abbrev pub refused_stated : KeyRefusal → Stated
refused_stated r = record { series = Err r; place = 0; zones = []; words = no_words; lengths = None; marks = no_marks }

-- what the events of a key state: an instance whose series is not there is refused, and none has no start
abbrev pub stated_by : Meaning → Option ℤ → Option Placed → Option ℕ → Stated
stated_by means offset (Some placed) instance = series_stated means offset placed
stated_by means offset None (Some place) = refused_stated (refusal.NoMaster place)
stated_by means offset None None = refused_stated (refusal.Event NoStart 0)

-- what the events of a key state, by what is gathered of them
abbrev pub gathered_stated : Meaning → Option ℤ → Result Gathered KeyRefusal → Stated
gathered_stated means offset (Ok gathered) = stated_by means offset gathered.series gathered.instance
gathered_stated means offset (Err r) = refused_stated r

-- what the events of some indexes of a list state together
unfoldable pub stated_in : Meaning → Option ℤ → List Data → List ℕ → Stated
stated_in means offset items indexes = gathered_stated means offset (gathered_at items indexes)

-- the title of an event, if there is one
abbrev pub title_in : Option Data → List ℕ
title_in None = []
title_in (Some event) = title_of event

-- the title of the event of an index
abbrev pub title_at : List Data → ℕ → List ℕ
title_at items index = title_in (slice_get items index)

-- The calendar that a list of events is.
abbrev pub calendar_of : Meaning → Option ℤ → List Data → Calendar
calendar_of means offset items = record { keys = keys_in items; stated = stated_in means offset items; titles = title_at items }
