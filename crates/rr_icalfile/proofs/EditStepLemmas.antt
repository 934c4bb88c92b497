-- What the steps of an edit answer.
use Rattle.std.proofs.Common.{◌≡◌, List, ℤ, Option, None, Some, Result, Ok, Err, refl, sym}
use Rattle.rr_model.specs.Answers.{Answers}
use Rattle.rr_rule_parts.specs.Calendars.{calendar_scan}
use Rattle.rr_model.specs.declared.refusal.Fault.{Fault}
use Rattle.rr_model.specs.declared.refusal.Fault.TheVariants as fault
use Rattle.rr_model.specs.declared.refusal.Refusal.{Refusal}
use Rattle.rr_model.specs.declared.rule.Series.{Series}
use Rattle.rr_model.specs.declared.stamp.Stamp.{Stamp}
use Rattle.rr_seam.specs.Steps.{◌>=>◌, AnswersKey, at_event, fault_at, key_in_turn}
use Rattle.rr_moved.specs.Moved.{Shifts, edited_moved, edited_starts, with_moment}
use Rattle.rr_icalfile.specs.Edited.{Names, common_start, edited_alone, edited_with_series, first_number}
use Rattle.rr_icalfile.specs.Edited.{moment_of, no_names, recurrence_stamp, shifts_of, stamp_on, start_line, start_of, starts_of}
use Rattle.rr_icalfile.specs.Edited.{with_event_start, with_instance, with_name, with_new_name}
use Rattle.rr_icalfile.specs.declared.event.Event.{Event}
use Rattle.rr_icalfile.specs.declared.event.Recurrence.{Recurrence}
use Rattle.rr_seam.specs.declared.refusal.KeyFault.{KeyFault}
use Rattle.rr_moved.proofs.KeyStepLemmas.{at_event-fault, at_event-ok, at_event-refused, ends, goes_on}

-- ---- one instance

module _ (offset : Option ℤ) (start : Stamp) (shifts : Shifts) (event : Event) where
  pub no_instance : event.recurrence ≡ None → with_instance offset start shifts event ≡ Ok shifts
  no_instance is = rw is refl

  module _ (recurrence : Recurrence) (is : event.recurrence ≡ Some recurrence) where
    pub moment_refused : (r : Refusal) → Err r ≡ moment_of offset start recurrence
        → AnswersKey (with_instance offset start shifts event) (Err (fault_at event.first (fault.Refused r)))
    moment_refused r h =
        rw is (ends _ (at_event event.first (moment_of offset start recurrence)) (fault_at event.first (fault.Refused r))
        (at_event-refused event.first (moment_of offset start recurrence) r (sym h)))

    module _ (at : ℤ) (h : Ok at ≡ moment_of offset start recurrence) where
      after : (r : Result Shifts KeyFault) → AnswersKey (with_moment event.first shifts at >=> λ more. with_event_start offset start more event) r
          → AnswersKey (with_instance offset start shifts event) r
      after r a =
          rw is (goes_on _ (at_event event.first (moment_of offset start recurrence)) at r
          (at_event-ok event.first (moment_of offset start recurrence) at (sym h)) a)

      pub twice : (f : KeyFault) → AnswersKey (with_moment event.first shifts at) (Err f) → AnswersKey (with_instance offset start shifts event) (Err f)
      twice f a = after (Err f) (ends _ (with_moment event.first shifts at) f a)

      pub instance_put : (more : Shifts) → with_moment event.first shifts at ≡ Ok more → (r : Result Shifts KeyFault)
          → AnswersKey (with_event_start offset start more event) r → AnswersKey (with_instance offset start shifts event) r
      instance_put more m r a = after r (goes_on _ (with_moment event.first shifts at) more r m a)

-- ---- a series with its instances

module _ (offset : Option ℤ) (event : Event) (instances : List Event) where
  pub scan_fault : (f : Fault) → Answers (calendar_scan offset event.scan) (Err f)
      → AnswersKey (edited_with_series offset event instances) (Err (fault_at event.first f))
  scan_fault f a =
      ends _ (at_event event.first (calendar_scan offset event.scan)) (fault_at event.first f)
      (at_event-fault event.first (calendar_scan offset event.scan) f a)

  module _ (series : Series) (is : calendar_scan offset event.scan ≡ Ok series) where
    scanned : (r : Result Series KeyFault)
        → AnswersKey (at_event event.first (stamp_on (start_line event.scan.used)) >=> (λ stamp. shifts_of offset (start_of series stamp) instances
        >=> (λ shifts. edited_moved event.is_cancelled event.first series shifts))) r
        → AnswersKey (edited_with_series offset event instances) r
    scanned r a =
        goes_on _ (at_event event.first (calendar_scan offset event.scan)) series r (at_event-ok event.first (calendar_scan offset event.scan) series is) a

    pub stamp_refused : (r : Refusal) → Err r ≡ stamp_on (start_line event.scan.used)
        → AnswersKey (edited_with_series offset event instances) (Err (fault_at event.first (fault.Refused r)))
    stamp_refused r h =
        scanned (Err (fault_at event.first (fault.Refused r)))
        (ends _ (at_event event.first (stamp_on (start_line event.scan.used))) (fault_at event.first (fault.Refused r))
        (at_event-refused event.first (stamp_on (start_line event.scan.used)) r (sym h)))

    module _ (stamp : Stamp) (h : Ok stamp ≡ stamp_on (start_line event.scan.used)) where
      started : (r : Result Series KeyFault)
          → AnswersKey (shifts_of offset (start_of series stamp) instances >=> (λ shifts. edited_moved event.is_cancelled event.first series shifts)) r
          → AnswersKey (edited_with_series offset event instances) r
      started r a =
          scanned r (goes_on _ (at_event event.first (stamp_on (start_line event.scan.used))) stamp r
          (at_event-ok event.first (stamp_on (start_line event.scan.used)) stamp (sym h)) a)

      pub shifts_fault : (f : KeyFault) → AnswersKey (shifts_of offset (start_of series stamp) instances) (Err f)
          → AnswersKey (edited_with_series offset event instances) (Err f)
      shifts_fault f a = started (Err f) (ends _ (shifts_of offset (start_of series stamp) instances) f a)

      pub series_edited : (shifts : Shifts) → shifts_of offset (start_of series stamp) instances ≡ Ok shifts → (r : Result Series KeyFault)
          → AnswersKey (edited_moved event.is_cancelled event.first series shifts) r → AnswersKey (edited_with_series offset event instances) r
      series_edited shifts s r a = started r (goes_on _ (shifts_of offset (start_of series stamp) instances) shifts r s a)

-- ---- instances alone

module _ (names : Names) (event : Event) where
  pub name_refused : (r : Refusal) → Err r ≡ recurrence_stamp event.recurrence → AnswersKey (with_name names event) (Err (fault_at event.first (fault.Refused r)))
  name_refused r h =
      ends _ (at_event event.first (recurrence_stamp event.recurrence)) (fault_at event.first (fault.Refused r))
      (at_event-refused event.first (recurrence_stamp event.recurrence) r (sym h))

  pub name_read : (stamp : Stamp) → Ok stamp ≡ recurrence_stamp event.recurrence → (r : Result Names KeyFault) → AnswersKey (with_new_name names event stamp) r
      → AnswersKey (with_name names event) r
  name_read stamp h r a =
      goes_on _ (at_event event.first (recurrence_stamp event.recurrence)) stamp r
      (at_event-ok event.first (recurrence_stamp event.recurrence) stamp (sym h)) a

module _ (offset : Option ℤ) (events : List Event) where
  pub names_fault : (f : KeyFault) → AnswersKey (key_in_turn with_name no_names events) (Err f) → AnswersKey (edited_alone offset events) (Err f)
  names_fault f a = ends _ (key_in_turn with_name no_names events) f a

  module _ (names : Names) (n : key_in_turn with_name no_names events ≡ Ok names) where
    named : (r : Result Series KeyFault)
        → AnswersKey (starts_of offset (common_start events) events >=> (λ shifts. edited_starts (first_number events)
        (common_start events).kind shifts)) r
        → AnswersKey (edited_alone offset events) r
    named r a = goes_on _ (key_in_turn with_name no_names events) names r n a

    pub starts_fault : (f : KeyFault) → AnswersKey (starts_of offset (common_start events) events) (Err f) → AnswersKey (edited_alone offset events) (Err f)
    starts_fault f a = named (Err f) (ends _ (starts_of offset (common_start events) events) f a)

    pub alone_edited : (shifts : Shifts) → starts_of offset (common_start events) events ≡ Ok shifts → (r : Result Series KeyFault)
        → AnswersKey (edited_starts (first_number events) (common_start events).kind shifts) r → AnswersKey (edited_alone offset events) r
    alone_edited shifts s r a = named r (goes_on _ (starts_of offset (common_start events) events) shifts r s a)
