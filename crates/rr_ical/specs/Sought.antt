-- Which components are looked for (RFC 5545, sections 3.6.1 and 3.6.5).
use Rattle.std.specs.Prelude.{ℕ, Bool, ◌||◌, List, codes}
use Rattle.std.specs.List.{list_any}
use Rattle.std.specs.Str.{str_eq_ignore_ascii_case}
use Rattle.rr_model.specs.Text.Event.{is_event}
use Rattle.rr_ical.specs.declared.open_names.Sought.{Sought}
use Rattle.rr_ical.specs.declared.open_names.Sought.TheVariants.{Events, EventsAndZones, Observances}

-- names of components compare in either case
abbrev pub is_zone : List ℕ → Bool
is_zone name = str_eq_ignore_ascii_case name (codes "VTIMEZONE")

-- the two kinds of observances of a zone
abbrev pub is_observance : List ℕ → Bool
is_observance name = str_eq_ignore_ascii_case name (codes "STANDARD") || str_eq_ignore_ascii_case name (codes "DAYLIGHT")

-- an event or a zone
abbrev pub is_event_or_zone : List ℕ → Bool
is_event_or_zone name = is_event name || is_zone name

-- the name of a component that is looked for
abbrev pub is_sought : Sought → List ℕ → Bool
is_sought Events = is_event
is_sought EventsAndZones = is_event_or_zone
is_sought Observances = is_observance

-- a place lies within a component that is looked for, directly or deeper
abbrev pub is_within : Sought → List (List ℕ) → Bool
is_within sought names = list_any (is_sought sought) names
