-- The events of a list, and what each states of itself as part of a calendar (Microsoft Graph, list events and event).
use Rattle.std.specs.Prelude.{ℕ, ◌+◌, ◌-◌, ◌==◌, nat_le, nat_lt, Bool, true, false, ◌&&◌, if◌then◌else◌, ℤ, List, [], ◌∷◌, length, drop}
use Rattle.std.specs.Prelude.{bytes_eq, codes, slice_index, Option, None, Some, ok_or, option_and_then, unwrap_or, Result, Ok, Err}
use Rattle.std.specs.Option.{is_some}
use Rattle.std.specs.Str.{is_utf8, str_eq_ignore_ascii_case}
use Rattle.serde_json.specs.Data.{Data, null, boolean, number, string, array, object, Items, no_items, item}
use Rattle.serde_json.specs.Find.{as_array}
use Rattle.serde_json.specs.Read.{read}
use Rattle.rr_model.specs.Graph.Members.{member_of, text_in}
use Rattle.rr_model.specs.Graph.Reading.{by_pattern, graph_moment, is_all_day, is_named_utc, is_true}
use Rattle.rr_model.specs.Text.ExtendedMoments.{extended_date_alone}
use Rattle.rr_model.specs.Text.Lines.{without_mark}
use Rattle.rr_model.specs.declared.graph.GraphEvent.{GraphEvent}
use Rattle.rr_model.specs.declared.refusal.Refusal.{Refusal}
use Rattle.rr_model.specs.declared.stamp.Stamp.{Stamp}
use Rattle.rr_seam.specs.declared.file.FileRefusal.{FileRefusal}
use Rattle.rr_seam.specs.declared.file.FileRefusal.TheVariants.{TooLong, BadJson, MorePages, NoEvents, BadEvent}
use Rattle.rr_seam.specs.declared.file.TheConstants.{MAX_FILE}
use Rattle.rr_seam.specs.declared.key.Key.{Key}
use Rattle.rr_seam.specs.declared.key.Key.TheVariants as key
use Rattle.rr_graphfile.specs.declared.item.EventType.{EventType}
use Rattle.rr_graphfile.specs.declared.item.EventType.TheVariants.{Single, Master, Occurrence, Exception}

-- ---- the list (Microsoft Graph, list events, and paging)

-- the elements of an array
abbrev pub list_of : Items → List Data
list_of no_items = []
list_of (item d ds) = d ∷ list_of ds

-- the elements of a value, if it is an array
abbrev pub elements_of : Option Items → Option (List Data)
elements_of None = None
elements_of (Some items) = Some (list_of items)

-- the array that a member is
abbrev pub array_in : List ℕ → Data → Option (List Data)
array_in name event = elements_of (option_and_then as_array (member_of name event))

-- a value is an object
abbrev pub is_object : Data → Bool
is_object null = false
is_object (boolean b) = false
is_object (number n) = false
is_object (string s) = false
is_object (array ds) = false
is_object (object ms) = true

-- the list that a file is: an array, or the array `value` of an object
abbrev pub list_in : Data → Option (List Data)
list_in value = if is_object value then array_in (codes "value") value else elements_of (as_array value)

-- the elements of an option of a list
abbrev pub elements_or_none : Option (List Data) → List Data
elements_or_none None = []
elements_or_none (Some items) = items

-- the events of a value, none if it is no list
abbrev pub items_in : Data → List Data
items_in value = elements_or_none (list_in value)

-- each element from this number on is an object, otherwise the first that is none
abbrev pub judged_items : ℕ → List Data → Result (Unit {0}) FileRefusal
judged_items n [] = Ok tt
judged_items n (d ∷ ds) = if is_object d then judged_items (n + 1) ds else Err (BadEvent n)

-- the list of objects, or its refusal
abbrev pub objects_of : List Data → Result (Unit {0}) FileRefusal → Result (List Data) FileRefusal
objects_of items (Ok judged) = Ok items
objects_of items (Err r) = Err r

-- the list in a value, or why it is refused
abbrev pub listed : Option (List Data) → Result (List Data) FileRefusal
listed None = Err NoEvents
listed (Some items) = objects_of items (judged_items 1 items)

-- the events of a value; a page that names the next one is a part of an export
abbrev pub value_items : Data → Result (List Data) FileRefusal
value_items value = if is_some (member_of (codes "@odata.nextLink") value) then Err MorePages else listed (list_in value)

-- the value of a text in UTF-8 (RFC 8259)
abbrev pub json_value : List ℕ → Result Data FileRefusal
json_value text = if is_utf8 text then ok_or (read text) BadJson else Err BadJson

-- the events of a value, or the refusal of its text
abbrev pub items_or_refusal : Result Data FileRefusal → Result (List Data) FileRefusal
items_or_refusal (Ok value) = value_items value
items_or_refusal (Err r) = Err r

-- The events of a file, or why the whole file is refused.
abbrev pub file_items : List ℕ → Result (List Data) FileRefusal
file_items bytes = if nat_lt MAX_FILE (length bytes) then Err TooLong else items_or_refusal (json_value (without_mark bytes))

-- ---- one event (Microsoft Graph, event: type, isCancelled, recurrence)

-- the type of an event by its name
unfoldable pub type_named : List ℕ → Option EventType
type_named text =
    if str_eq_ignore_ascii_case text (codes "singleInstance") then Some Single
    else (if str_eq_ignore_ascii_case text (codes "seriesMaster") then Some Master
    else (if str_eq_ignore_ascii_case text (codes "occurrence") then Some Occurrence
    else (if str_eq_ignore_ascii_case text (codes "exception") then Some Exception else None)))

-- the type of an event
abbrev pub type_of : Data → Option EventType
type_of event = option_and_then type_named (text_in (codes "type") event)

-- an event is an instance of a series
abbrev pub is_instance : Option EventType → Bool
is_instance None = false
is_instance (Some Single) = false
is_instance (Some Master) = false
is_instance (Some Occurrence) = true
is_instance (Some Exception) = true

-- an event is cancelled
abbrev pub is_cancelled : Data → Bool
is_cancelled event = is_true (member_of (codes "isCancelled") event)

-- the title of an event, empty if it has none (Microsoft Graph, event, subject)
abbrev pub title_of : Data → List ℕ
title_of event = unwrap_or (text_in (codes "subject") event) []

-- an event has a recurrence
abbrev pub repeats : Data → Bool
repeats event = is_some (member_of (codes "recurrence") event)

-- what an event states of itself (Microsoft Graph, event: start, isAllDay, recurrence), as an event alone is read
abbrev pub read_event : Option ℤ → Data → Result GraphEvent Refusal
read_event offset event = by_pattern offset (member_of (codes "pattern") event) event

-- ---- what it is found again by (Microsoft Graph, event: iCalUId, seriesMasterId, id)

-- a text, empty if it is missing
abbrev pub text_or_empty : Option (List ℕ) → List ℕ
text_or_empty None = []
text_or_empty (Some text) = text

-- the name by which an event is found again, empty if it has none
abbrev pub own_name : Data → List ℕ
own_name event = text_or_empty (text_in (codes "iCalUId") event)

-- a text is the id
abbrev pub is_text : List ℕ → Option (List ℕ) → Bool
is_text id None = false
is_text id (Some text) = bytes_eq text id

-- an event has this id
abbrev pub has_id : List ℕ → Data → Bool
has_id id event = is_text id (text_in (codes "id") event)

-- the name of the first event with this id
abbrev pub name_by_id : List ℕ → List Data → Option (List ℕ)
name_by_id id [] = None
name_by_id id (d ∷ ds) = if has_id id d then Some (own_name d) else name_by_id id ds

-- the name of the series with this id, if it is in the list, otherwise another name
abbrev pub master_by_id : List Data → List ℕ → Option (List ℕ) → List ℕ
master_by_id items other None = other
master_by_id items other (Some id) = unwrap_or (name_by_id id items) other

-- the name of the series of an instance, if that is in the list, otherwise its own: the iCalUId of an instance is not that of its series
abbrev pub master_name : List Data → Data → List ℕ
master_name items event = master_by_id items (own_name event) (text_in (codes "seriesMasterId") event)

-- the name of an event in a list: that of its series, if it is an instance
abbrev pub name_in : List Data → Data → List ℕ
name_in items event = if is_instance (type_of event) then master_name items event else own_name event

-- the key of an event by its number and its name
abbrev pub key_by : ℕ → List ℕ → Key
key_by n [] = key.Number n
key_by n (b ∷ bs) = key.Uid (b ∷ bs)

-- the key of an event with this number in a list
abbrev pub key_of : List Data → ℕ → Data → Key
key_of items n event = key_by n (name_in items event)

-- the keys of events of a list, numbered from this number on
abbrev pub keys_from : List Data → ℕ → List Data → List Key
keys_from items n [] = []
keys_from items n (d ∷ ds) = key_of items n d ∷ keys_from items (n + 1) ds

-- the keys of the events of a list, numbered from 1
abbrev pub keys_in : List Data → List Key
keys_in items = keys_from items 1 items

-- ---- which occurrence an instance is (Microsoft Graph, event: cancelledOccurrences and occurrenceId)

-- the day that an id of an instance ends with, after a point: OID.(id of the master).YYYY-MM-DD
unfoldable pub instance_day : List ℕ → Option ℤ
instance_day text =
    if nat_le 11 (length text) && (slice_index text (length text - 11) == 46) then extended_date_alone (drop (length text - 10) text) else None

-- ---- zones (Microsoft Graph, dateTimeTimeZone; recurrenceRange, recurrenceTimeZone)

-- the zone of this name, `Z` for UTC; the empty one if none is stated
abbrev pub zone_named : Option (List ℕ) → List ℕ
zone_named zone = if is_named_utc zone then codes "Z" else text_or_empty zone

-- the moment of a start is one of UTC, as its `Z` says
abbrev pub has_mark : Option Stamp → Bool
has_mark None = false
has_mark (Some stamp) = stamp.utc

-- the zone of a start: `Z` if its moment ends with `Z`, otherwise that of its timeZone
abbrev pub zone_at : Data → List ℕ
zone_at start =
    if has_mark (option_and_then graph_moment (text_in (codes "dateTime") start)) then codes "Z" else zone_named (text_in (codes "timeZone") start)

-- the zone of a member that is a start
abbrev pub zone_of_start : Option Data → List ℕ
zone_of_start None = []
zone_of_start (Some start) = zone_at start

-- the zone of an event; dates have none
abbrev pub zone_of : Data → List ℕ
zone_of event = if is_all_day event then [] else zone_of_start (member_of (codes "start") event)

-- the text of recurrenceTimeZone, empty if it is missing (Microsoft Graph, recurrenceRange)
abbrev pub range_zone : Data → List ℕ
range_zone event =
    text_or_empty (option_and_then (text_in (codes "recurrenceTimeZone"))
    (option_and_then (member_of (codes "range")) (member_of (codes "recurrence") event)))

-- the zone of this name, if it is not empty, otherwise that in which an event was made (Microsoft Graph, event: originalStartTimeZone)
abbrev pub zone_or_original : List ℕ → Data → List ℕ
zone_or_original [] event = text_or_empty (text_in (codes "originalStartTimeZone") event)
zone_or_original (b ∷ bs) event = b ∷ bs

-- the name of the event's own zone: that of its range, otherwise that in which it was made; empty if neither is stated
abbrev pub own_zone : Data → List ℕ
own_zone event = zone_or_original (range_zone event) event
