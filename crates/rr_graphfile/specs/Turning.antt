-- How moments of UTC are put into local time of the zone of their event (RFC 5545, section 3.3.5; Microsoft Graph, event: originalStartTimeZone).
use Rattle.std.specs.Prelude.{ℕ, zero, suc, Bool, false, not, ◌||◌, if◌then◌else◌, ℤ, pos, ◌-ℤ◌, List, [], ◌∷◌, bytes_eq, codes}
use Rattle.std.specs.Prelude.{Option, None, Some, option_and_then}
use Rattle.std.specs.Ordering.{int_eq}
use Rattle.serde_json.specs.Data.{Data}
use Rattle.rr_model.specs.Graph.Members.{member_of, text_in}
use Rattle.rr_model.specs.Graph.Reading.{graph_moment, is_all_day, is_named_utc}
use Rattle.rr_model.specs.declared.stamp.Stamp.{Stamp}
use Rattle.rr_true.specs.Moments.{local_at}
use Rattle.rr_graphfile.specs.Items.{own_zone, zone_named, zone_of}

-- What a name of a zone means: at each moment of UTC, how many seconds local time is ahead of it; or nothing.
abbrev pub Meaning : Type 0
Meaning = List ℕ → Option (ℤ → ℤ)

-- ---- which moments have a local time of their own

-- one of the n moments before u has this local time
unfoldable pub is_shown_before : (ℤ → ℤ) → ℤ → ℤ → ℕ → Bool
is_shown_before ahead t u zero = false
is_shown_before ahead t u (suc n) = int_eq (local_at ahead (u -ℤ pos 1)) t || is_shown_before ahead t (u -ℤ pos 1) n

-- a local time names this moment: a time that the clock shows twice names its first pass. Offsets are less than a day, so a first pass is less
-- than two days before the second one.
abbrev pub is_named : (ℤ → ℤ) → ℤ → Bool
is_named ahead u = not (is_shown_before ahead (local_at ahead u) u 172_800)

-- ---- by what an event is turned

-- the zone of this name, how far its local time is ahead of UTC at each moment, if that is known, and a stated offset of local time from UTC
pub record Turning : Type 0 where
  pub name : List ℕ
  pub ahead : Option (ℤ → ℤ)
  pub stated : Option ℤ

-- local time of a zone names this moment
abbrev pub is_named_in : Option (ℤ → ℤ) → ℤ → Bool
is_named_in None u = false
is_named_in (Some ahead) u = is_named ahead u

-- by how much a moment of UTC is turned: by its offset in the zone, if a local time names it, otherwise by the stated one
abbrev pub offset_by : Option (ℤ → ℤ) → Option ℤ → ℤ → Option ℤ
offset_by None stated u = stated
offset_by (Some ahead) stated u = if is_named ahead u then Some (ahead u) else stated

-- by how much a moment of UTC of the event is turned
abbrev pub offset_in : Turning → ℤ → Option ℤ
offset_in turning u = offset_by turning.ahead turning.stated u

-- the moment of UTC that a start is by its `Z`, or by the name of its zone
abbrev pub utc_moment : Data → Stamp → Option ℤ
utc_moment start stamp = if stamp.utc || is_named_utc (text_in (codes "timeZone") start) then Some stamp.at else None

-- the moment of UTC that a member is, if it is one
abbrev pub utc_of_start : Option Data → Option ℤ
utc_of_start None = None
utc_of_start (Some start) = option_and_then (utc_moment start) (option_and_then graph_moment (text_in (codes "dateTime") start))

-- the moment of UTC that the start of an event is; none of one that is all day
abbrev pub utc_start : Data → Option ℤ
utc_start event = if is_all_day event then None else utc_of_start (member_of (codes "start") event)

-- the offset by which the start of an event is turned
abbrev pub start_offset : Turning → Data → Option ℤ
start_offset turning event = option_and_then (offset_in turning) (utc_start event)

-- the zone of an event whose start is this moment of UTC: that which turns it
abbrev pub zone_by : Turning → Data → Option ℤ → List ℕ
zone_by turning event None = zone_of event
zone_by turning event (Some u) = if is_named_in turning.ahead u then turning.name else zone_of event

-- the zone of an event that is turned so
abbrev pub turned_zone : Turning → Data → List ℕ
turned_zone turning event = zone_by turning event (utc_start event)

-- ---- which zone that is

-- the name is one of UTC
abbrev pub is_utc : List ℕ → Bool
is_utc name = bytes_eq (zone_named (Some name)) (codes "Z")

-- the name of the zone that turns an event of this start: its own one, unless that is UTC; none turns a date or local time
abbrev pub turning_name_by : Option ℤ → List ℕ → List ℕ
turning_name_by None name = []
turning_name_by (Some u) name = if is_utc name then [] else name

-- the name of the zone that turns an event; empty if none does
abbrev pub turning_name : Data → List ℕ
turning_name event = turning_name_by (utc_start event) (own_zone event)

-- what a name means, if there is one
abbrev pub meaning_of : Meaning → List ℕ → Option (ℤ → ℤ)
meaning_of means [] = None
meaning_of means (b ∷ bs) = means (b ∷ bs)

-- By what the moments of UTC of an event are turned: by what the name of its own zone means, and otherwise by a stated offset.
abbrev pub turning_of : Meaning → Option ℤ → Data → Turning
turning_of means offset event = record { name = turning_name event; ahead = meaning_of means (turning_name event); stated = offset }
