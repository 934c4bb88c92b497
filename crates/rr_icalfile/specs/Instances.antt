-- What occurs in the events of a key some of whose instances are moved or cancelled (RFC 5545, sections 3.8.4.4 and 3.8.1.11).
use Rattle.std.specs.Prelude.{◌≡◌, ◌↔◌, Bool, true, false, List, ℤ, Option, None, Some, Ok, Err}
use Rattle.std.specs.List.{Contains}
use Rattle.rr_model.specs.Moment.{Occurrences}
use Rattle.rr_model.specs.Series.Occurrences.{Occurs}
use Rattle.rr_rule_parts.specs.Calendars.{calendar_scan}
use Rattle.rr_model.specs.declared.kind.Kind.{Kind}
use Rattle.rr_model.specs.declared.rule.Series.{Series}
use Rattle.rr_model.specs.declared.stamp.Stamp.{Stamp}
use Rattle.rr_seam.specs.declared.refusal.KeyRefusal.{KeyRefusal}
use Rattle.rr_moved.specs.Instances.{OccursShifted}
use Rattle.rr_moved.specs.Moved.{Shifts}
use Rattle.rr_icalfile.specs.Days.{reading_of_events, with_times}
use Rattle.rr_icalfile.specs.Edited.{KeyEvents, common_start, edited_by, key_events, shifts_of, stamp_on, start_line, start_of, starts_of}
use Rattle.rr_icalfile.specs.declared.day.Reading.{Reading}
use Rattle.rr_icalfile.specs.declared.event.Event.{Event}

-- what occurs is what is so of the series that an event states, and of what its instances take out and put in beside its start
pub record IsOfSeries (offset : Option ℤ) (event : Event) (instances : List Event) (P : Occurrences) : Type 0 where
  pub series : Series
  pub stamp : Stamp
  pub shifts : Shifts
  pub reads : calendar_scan offset event.scan ≡ Ok series
  pub states : stamp_on (start_line event.scan.used) ≡ Ok stamp
  pub shifted : shifts_of offset (start_of series stamp) instances ≡ Ok shifts
  pub exact : (k : Kind) (t : ℤ) → P k t ↔ OccursShifted event.is_cancelled series shifts k t

-- what occurs is that instances without a series start
pub record IsOfStarts (offset : Option ℤ) (instances : List Event) (P : Occurrences) : Type 0 where
  pub shifts : Shifts
  pub started : starts_of offset (common_start instances) instances ≡ Ok shifts
  pub exact : (k : Kind) (t : ℤ) → P k t ↔ ((k ≡ (common_start instances).kind) × Contains shifts.starts t)

-- what occurs in the events of a key, by its series, if it has one
abbrev pub IsOfEvents : Option ℤ → Option Event → List Event → Occurrences → Type 0
IsOfEvents offset (Some event) instances P = IsOfSeries offset event instances P
IsOfEvents offset None instances P = IsOfStarts offset instances P

-- the events that a reading is of: those of the key, or these with the time of day of the start behind their dates
abbrev pub events_read : Bool → KeyEvents → KeyEvents
events_read false all = all
events_read true all = with_times all

-- the events of a key are refused if each of their dates is read as RFC 5545 asks
pub record AreRefused (offset : Option ℤ) (all : KeyEvents) : Type 0 where
  pub refusal : KeyRefusal
  pub is : edited_by offset all.series all.instances ≡ Err refusal

-- The events of a key have a series and instances, and what occurs in a reading of them is what occurs in these; it says that dates are read
-- as the occurrences of their days exactly if it may, and the events are refused otherwise.
pub record IsOfKey (offset : Option ℤ) (lenient : Bool) (events : List Event) (reading : Reading) : Type 0 where
  pub all : KeyEvents
  pub gathered : key_events events ≡ Ok all
  pub occurs : IsOfEvents offset (events_read reading.day all).series (events_read reading.day all).instances (Occurs reading.series)
  pub day : (reading.day ≡ true) ↔ ((lenient ≡ true) × AreRefused offset all)

-- What occurs in what is read of the events of a key is what is so of their series and their instances.
abbrev pub EventsOccur : Type 0
EventsOccur =
    (offset : Option ℤ) (lenient : Bool) (events : List Event) (reading : Reading) → reading_of_events offset lenient events ≡ Ok reading
    → IsOfKey offset lenient events reading
