-- What the events of a key state in a vCalendar 1.0 text.
use Rattle.std.specs.Prelude.{ℕ, Bool, false, if◌then◌else◌, ℤ, List, [], ◌∷◌, codes, flat_map, map, option_map, option_to_list, slice_get, unwrap_or, Option, None, Some, Result, Ok, Err}
use Rattle.rr_model.specs.Text.Event.{no_components, scan_of}
use Rattle.rr_model.specs.Text.Moments.{basic}
use Rattle.rr_model.specs.Text.UsedLines.{trim}
use Rattle.rr_model.specs.Vcal.Counterpart.{series_of_vseries}
use Rattle.rr_model.specs.declared.line.Line.{Line}
use Rattle.rr_model.specs.declared.refusal.Refusal.TheVariants.{NoStart}
use Rattle.rr_model.specs.declared.rule.Series.{Series}
use Rattle.rr_model.specs.declared.stamp.Stamp.{Stamp}
use Rattle.rr_model.specs.declared.vcal.VSeries.{VSeries}
use Rattle.rr_events.specs.Own.{first_value, own_lines}
use Rattle.rr_length.specs.Event.{event_length}
use Rattle.rr_length.specs.Lengths.{Lengths}
use Rattle.rr_length.specs.declared.length.Length.{Length}
use Rattle.rr_vcal.specs.Scans.{vcal_scan}
use Rattle.rr_seam.specs.Marks.{no_marks}
use Rattle.rr_seam.specs.Stated.{Calendar, Stated, calendar_by}
use Rattle.rr_seam.specs.Steps.{◌>=>◌, at_event, key_in_turn}
use Rattle.rr_seam.specs.Words.{are_same_lines}
use Rattle.rr_seam.specs.declared.key.Key.{Key}
use Rattle.rr_seam.specs.declared.key.Key.TheVariants as key
use Rattle.rr_seam.specs.declared.refusal.KeyRefusal.{KeyRefusal}
use Rattle.rr_seam.specs.declared.refusal.KeyRefusal.TheVariants as refusal
use Rattle.rr_vcalfile.specs.Words.{event_words, title_of, words_in}

-- ---- one event

-- the number of the line that begins an event
abbrev pub first_line : List Line → ℕ
first_line [] = 0
first_line (line ∷ lines) = line.number

-- the key of an event by its first line and the value of its UID (vCalendar 1.0, section 2.2.5)
abbrev pub key_by : ℕ → List ℕ → Key
key_by first [] = key.Line first
key_by first (b ∷ bs) = key.Uid (b ∷ bs)

-- the key of an event
abbrev pub key_of : List Line → Key
key_of event = key_by (first_line event) (first_value (codes "UID") (own_lines [] event))

-- the series that an event states of itself
abbrev pub vseries_of : Option ℤ → List Line → Result VSeries KeyRefusal
vseries_of offset event = at_event (first_line event) (vcal_scan offset (scan_of false 0 no_components event))

-- the series of RFC 5545 with its occurrences
abbrev pub series_of : Option ℤ → List Line → Result Series KeyRefusal
series_of offset event = vseries_of offset event >=> λ series. Ok (series_of_vseries series)

-- a text states a moment of UTC
abbrev pub states_utc : List ℕ → Bool
states_utc text = unwrap_or (option_map (λ (stamp : Stamp). stamp.utc) (basic (trim text))) false

-- the zone of an event by its own lines: `Z` if its start is a moment of UTC; no other zone is stated
abbrev pub zone_of : List Line → List ℕ
zone_of own = if states_utc (first_value (codes "DTSTART") own) then codes "Z" else []

-- all occurrences have this length
abbrev pub all_of_length : Length → Lengths
all_of_length length = record { usual = length; dated = [] }

-- how long the occurrences of an event are by its own lines, if that can be told: all alike, since this language has no instances
abbrev pub lengths_of : List Line → Option Lengths
lengths_of own = option_map all_of_length (event_length own)

-- ---- the events of a key

-- a second event of a key is refused, unless it states the first again: this language has no instances
abbrev pub with_event : Option (List Line) → List Line → Result (Option (List Line)) KeyRefusal
with_event None event = Ok (Some event)
with_event (Some first) event =
    if are_same_lines (event_words first) (event_words event) then Ok (Some first) else Err (refusal.TwoSeries (first_line event))

-- the event of an index more, if the file has one
abbrev pub with_found : Option (List Line) → Option (List Line) → Result (Option (List Line)) KeyRefusal
with_found gathered None = Ok gathered
with_found gathered (Some event) = with_event gathered event

-- the event of an index more; an index beyond the last event adds nothing
abbrev pub with_index : List (List Line) → Option (List Line) → ℕ → Result (Option (List Line)) KeyRefusal
with_index events gathered i = with_found gathered (slice_get events i)

-- the event of these indexes
abbrev pub gathered_at : List (List Line) → List ℕ → Result (Option (List Line)) KeyRefusal
gathered_at events indexes = key_in_turn (with_index events) None indexes

-- what an event states, which a limit refuses at its own line; no date is read as the occurrences of its day
abbrev pub event_stated : Option ℤ → List Line → Stated
event_stated offset event = record {
  series = series_of offset event;
  place = first_line event;
  zones = zone_of (own_lines [] event) ∷ [];
  words = words_in (event ∷ []);
  lengths = lengths_of (own_lines [] event);
  marks = no_marks;
}

-- what is refused states no series
abbrev pub refused_stated : KeyRefusal → Stated
refused_stated r = record { series = Err r; place = 0; zones = []; words = words_in []; lengths = None; marks = no_marks }

-- what the events of a key state, by what is gathered of them; none has no start
abbrev pub gathered_stated : Option ℤ → Result (Option (List Line)) KeyRefusal → Stated
gathered_stated offset (Ok (Some event)) = event_stated offset event
gathered_stated offset (Ok None) = refused_stated (refusal.Event NoStart 0)
gathered_stated offset (Err r) = refused_stated r

-- the event of an index, if there is one
abbrev pub text_at : List (List Line) → ℕ → List (List Line)
text_at events index = option_to_list (slice_get events index)

-- the events of indexes
abbrev pub texts_at : List (List Line) → List ℕ → List (List Line)
texts_at events indexes = flat_map (text_at events) indexes

-- what the events of some indexes state together, in the words of all of them
unfoldable pub stated_in : Option ℤ → List (List Line) → List ℕ → Stated
stated_in offset events indexes = record (gathered_stated offset (gathered_at events indexes)) { words = words_in (texts_at events indexes) }

-- the title of the event of an index, empty without one
abbrev pub title_at : List (List Line) → ℕ → List ℕ
title_at events index = unwrap_or (option_map title_of (slice_get events index)) []

-- The calendar of these events.
abbrev pub calendar_of : Option ℤ → List (List Line) → Calendar
calendar_of offset events = calendar_by (map key_of events) (stated_in offset events) (title_at events)
