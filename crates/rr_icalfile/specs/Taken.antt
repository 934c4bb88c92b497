-- Which events of a key are taken, and which one is its series (RFC 5545, sections 3.8.4.4 and 3.8.4.7).
use Rattle.std.specs.Prelude.{ℕ, Bool, true, false, not, ◌&&◌, ◌||◌, if◌then◌else◌, List, [], ◌∷◌, map, Option, None, Some}
use Rattle.std.specs.List.{filter}
use Rattle.std.specs.Option.{is_some}
use Rattle.rr_model.specs.declared.line.Line.{Line}
use Rattle.rr_events.specs.Own.{own_lines}
use Rattle.rr_seam.specs.Words.{are_same_lines}
use Rattle.rr_icalfile.specs.Event.{event_of, has_rule_or_date, recurrence_of}
use Rattle.rr_icalfile.specs.Words.{event_words, words_of}
use Rattle.rr_icalfile.specs.Zones.{series_zones}
use Rattle.rr_icalfile.specs.declared.event.Event.{Event}
use Rattle.rr_icalfile.specs.declared.event.Recurrence.{Recurrence}

-- ---- the same event twice counts once

-- an event without a RECURRENCE-ID is a series
abbrev pub is_series : List Line → Bool
is_series lines = not (is_some (recurrence_of (own_lines [] lines)))

-- the words of an event with these own lines, if it is a series
abbrev pub series_words_of : List Line → Option (List (List ℕ))
series_words_of own = if not (is_some (recurrence_of own)) then Some (words_of own) else None

-- the words of an event, if it is a series
abbrev pub series_words : List Line → Option (List (List ℕ))
series_words lines = series_words_of (own_lines [] lines)

-- an event states the series of these words again, in any order of its lines
abbrev pub is_again : List (List ℕ) → List Line → Bool
is_again words lines = is_series lines && are_same_lines words (event_words lines)

-- the events but for those that state the series of these words again
abbrev pub without_again : List (List ℕ) → List (List Line) → List (List Line)
without_again words texts = filter (λ lines. not (is_again words lines)) texts

-- the events but for those that state the first series again
abbrev pub once : List (List Line) → List (List Line)
once [] = []
once (lines ∷ texts) = lines ∷ (if is_series lines then without_again (event_words lines) texts else once texts)

-- ---- an event alone

-- a RECURRENCE-ID that names one instance, and not those that follow it as well
abbrev pub names_one : Option Recurrence → Bool
names_one None = false
names_one (Some recurrence) = not recurrence.has_range

-- an event calls itself one instance and has a rule or dates of its own
abbrev pub is_series_alone : Event → Bool
is_series_alone event = names_one event.recurrence && has_rule_or_date event.scan

-- an event as the series that it states, whatever instance it calls itself
abbrev pub as_series : List Line → Event
as_series lines = record (event_of lines) { recurrence = None; zones = series_zones (own_lines [] lines) }

-- an event that is alone under its key: the series, if it has a rule or dates of its own
abbrev pub alone : List Line → Event
alone lines = if is_series_alone (event_of lines) then as_series lines else event_of lines

-- events of a key, one of which may be alone
abbrev pub alone_or_beside : List (List Line) → List Event
alone_or_beside [] = []
alone_or_beside (lines ∷ []) = alone lines ∷ []
alone_or_beside (lines ∷ next ∷ texts) = map event_of (lines ∷ next ∷ texts)

-- The events of a key as they are taken: a series that is stated twice counts once, and an event alone is the series if it has a rule or dates.
abbrev pub taken : List (List Line) → List Event
taken texts = alone_or_beside (once texts)

-- ---- whether a key has two series

-- an event that was read is a series
abbrev pub is_series_read : Event → Bool
is_series_read event = not (is_some event.recurrence)

-- two events are series, or one if another came before them
abbrev pub has_two_series : Bool → List Event → Bool
has_two_series has_one [] = false
has_two_series has_one (event ∷ events) =
    if is_series_read event then has_one || has_two_series true events else has_two_series has_one events

-- a series, if it is one, states the first one again, if there is one
abbrev pub states_again : Option (List (List ℕ)) → Option (List (List ℕ)) → Bool
states_again None words = false
states_again (Some first) None = false
states_again (Some first) (Some words) = are_same_lines first words

-- the first of two series
abbrev pub first_series : Option (List (List ℕ)) → Option (List (List ℕ)) → Option (List (List ℕ))
first_series None words = words
first_series (Some first) words = Some first

-- an event, unless it states the first series again
abbrev pub kept_of : Bool → List Line → List (List Line)
kept_of true lines = []
kept_of false lines = lines ∷ []
