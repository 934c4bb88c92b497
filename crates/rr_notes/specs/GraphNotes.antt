-- What `rr` does not read of a text of Microsoft Graph (list events; event, cancelledOccurrences and exceptionOccurrences).
use Rattle.std.specs.Prelude.{◌≡◌, ◌⊎◌, ℕ, Bool, true, false, ◌||◌, if◌then◌else◌, List, codes, Option, None, Some, option_and_then}
use Rattle.std.specs.Option.{is_some}
use Rattle.std.specs.Str.{is_utf8}
use Rattle.serde_json.specs.Data.{Data, Items, no_items, item}
use Rattle.serde_json.specs.Find.{as_array, get}
use Rattle.serde_json.specs.Read.{read}

-- what is said of a list of events
abbrev pub list_note : List ℕ
list_note = codes "the file is a list of Graph events: 'rr-calendars OLD graph:FILE' compares each of them"

-- what is said of an event with cancelled or changed instances
abbrev pub instances_note : List ℕ
instances_note = codes "the Graph event has cancelled or changed instances, which rr does not read: put the text between [ and ], and 'rr-calendars OLD graph:FILE' reads it"

-- an array, and not an empty one
abbrev pub has_items : Option Items → Bool
has_items None = false
has_items (Some no_items) = false
has_items (Some (item d ds)) = true

-- the member of this name is an array, and not an empty one
abbrev pub has_elements : List ℕ → Data → Bool
has_elements name value = has_items (option_and_then as_array (get name value))

-- a value is a list of events: an array, or an object whose `value` is one
abbrev pub is_list : Data → Bool
is_list value = is_some (as_array value) || is_some (option_and_then as_array (get (codes "value") value))

-- what is said of a value
abbrev pub note_on_value : Data → Option (List ℕ)
note_on_value value =
    if is_list value then Some list_note
    else if has_elements (codes "cancelledOccurrences") value || has_elements (codes "exceptionOccurrences") value then Some instances_note
    else None

-- the value of a text, if it is JSON in UTF-8 (RFC 8259)
abbrev pub json_value : List ℕ → Option Data
json_value text = if is_utf8 text then read text else None

-- what is said of a text
abbrev pub note_on_graph : List ℕ → Option (List ℕ)
note_on_graph text = option_and_then note_on_value (json_value text)

-- one of the two notes on a text of Microsoft Graph
abbrev pub IsGraphNote : List ℕ → Type 0
IsGraphNote note = (note ≡ list_note) ⊎ (note ≡ instances_note)
