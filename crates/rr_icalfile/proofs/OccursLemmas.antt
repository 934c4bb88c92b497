-- What occurs in the events of a key.
use Rattle.std.proofs.Common.{◌≡◌, Bool, true, List, ℤ, Option, None, Some, Result, Ok, Err, refl, sym, subst, ap, ◌∙◌}
use Rattle.std.proofs.lemmas.Bool.{false≢true}
use Rattle.rr_model.specs.Series.Occurrences.{Occurs}
use Rattle.rr_rule_parts.specs.Calendars.{calendar_scan}
use Rattle.rr_model.specs.declared.rule.Series.{Series}
use Rattle.rr_rrule.proofs.BesideLemmas.{scan-valid}
use Rattle.rr_seam.specs.Steps.{at_event, key_in_turn}
use Rattle.rr_moved.proofs.KeyStepLemmas.{then_ok, was_ok}
use Rattle.rr_moved.proofs.OccursLemmas.{moved_occurs, starts_alone}
use Rattle.rr_seam.specs.declared.refusal.KeyRefusal.{KeyRefusal}
use Rattle.rr_icalfile.specs.Days.{reading_of, with_times}
use Rattle.rr_icalfile.specs.Edited.{KeyEvents, common_start, edited_alone, edited_by, edited_with_series, first_number, key_events, no_names}
use Rattle.rr_icalfile.specs.Edited.{shifts_of, stamp_on, start_line, start_of, starts_of, with_name}
use Rattle.rr_icalfile.specs.Instances.{AreRefused, EventsOccur, IsOfEvents, IsOfSeries, IsOfStarts, events_read}
use Rattle.rr_icalfile.specs.declared.day.Reading.{Reading}
use Rattle.rr_icalfile.specs.declared.event.Event.{Event}
use Rattle.rr_icalfile.proofs.DayLemmas.{IsRead, read_so}

-- ---- a series with its instances

module _ (offset : Option ℤ) where
  of_series : (event : Event) (instances : List Event) (edited : Series) → edited_with_series offset event instances ≡ Ok edited
      → IsOfSeries offset event instances (Occurs edited)
  of_series event instances edited h =
      let read = then_ok (at_event event.first (calendar_scan offset event.scan)) _ edited h in
      let stamp = then_ok (at_event event.first (stamp_on (start_line event.scan.used))) _ edited read.2 in
      let shifts = then_ok (shifts_of offset (start_of read.0 stamp.0) instances) _ edited stamp.2 in
      let reads = was_ok event.first (calendar_scan offset event.scan) read.0 read.1 in
      record {
        series = read.0;
        stamp = stamp.0;
        shifts = shifts.0;
        reads = reads;
        states = was_ok event.first (stamp_on (start_line event.scan.used)) stamp.0 stamp.1;
        shifted = shifts.1;
        exact = moved_occurs event.is_cancelled event.first read.0 edited shifts.0 (scan-valid offset event.scan read.0 reads) shifts.2;
      }

  -- ---- instances alone

  of_starts : (instances : List Event) (edited : Series) → edited_alone offset instances ≡ Ok edited → IsOfStarts offset instances (Occurs edited)
  of_starts instances edited h =
      let names = then_ok (key_in_turn with_name no_names instances) _ edited h in
      let shifts = then_ok (starts_of offset (common_start instances) instances) _ edited names.2 in
      record {
        shifts = shifts.0;
        started = shifts.1;
        exact = starts_alone (first_number instances) (common_start instances).kind shifts.0 edited shifts.2;
      }

  of_events : (series : Option Event) (instances : List Event) (edited : Series) → edited_by offset series instances ≡ Ok edited
      → IsOfEvents offset series instances (Occurs edited)
  of_events None instances edited h = of_starts instances edited h
  of_events (Some event) instances edited h = of_series event instances edited h

-- ---- what is read of the events

module _ (offset : Option ℤ) (lenient : Bool) (all : KeyEvents) (reading : Reading) (h : reading_of offset lenient all ≡ Ok reading) where
  was_read : IsRead offset all lenient (edited_by offset all.series all.instances) reading
  was_read = read_so offset all lenient (edited_by offset all.series all.instances) reading h

  -- what occurs in the events that a reading is of
  abbrev IsOf : Bool → Type 0
  IsOf day = IsOfEvents offset (events_read day all).series (events_read day all).instances (Occurs reading.series)

  of_reading : IsOf reading.day
  of_reading = by (edited_by offset all.series all.instances) refl
    where
      by : (strict : Result Series KeyRefusal) → edited_by offset all.series all.instances ≡ strict → IsOf reading.day
      by (Ok series) is =
          let asked = was_read.as_asked series is in
          subst IsOf (sym asked.0) (of_events offset all.series all.instances reading.series (is ∙ ap Ok (sym asked.1)))
      by (Err r) is =
          let days = (was_read.by_days r is).1 in
          subst IsOf (sym days.day) (of_events offset (with_times all).series (with_times all).instances reading.series days.series)

  day_said : reading.day ≡ true → (lenient ≡ true) × AreRefused offset all
  day_said day = by (edited_by offset all.series all.instances) refl
    where
      by : (strict : Result Series KeyRefusal) → edited_by offset all.series all.instances ≡ strict → (lenient ≡ true) × AreRefused offset all
      by (Ok series) is = absurd (false≢true (sym (was_read.as_asked series is).0 ∙ day))
      by (Err r) is = ((was_read.by_days r is).0, record { refusal = r; is = is })

pub events_occur : EventsOccur
events_occur offset lenient events reading h =
    let all = then_ok (key_events events) (reading_of offset lenient) reading h in
    record {
      all = all.0;
      gathered = all.1;
      occurs = of_reading offset lenient all.0 reading all.2;
      day = (
        day_said offset lenient all.0 reading all.2,
        λ refused. ((was_read offset lenient all.0 reading all.2).by_days refused.1.refusal refused.1.is).1.day,
      );
    }
