-- The edited series of a key is valid.
use Rattle.std.proofs.Common.{◌≡◌, ℕ, Bool, true, false, if◌then◌else◌, List, Option, None, Some, Ok, Err}
use Rattle.std.proofs.Common.{refl, subst, ℤ}
use Rattle.std.specs.Prelude.{not, ◌&&◌}
use Rattle.rr_model.specs.Moment.Years.{IsInYears}
use Rattle.rr_model.specs.Series.Validity.{IsValidSeries}
use Rattle.rr_rule_parts.specs.Calendars.{calendar_scan, rrule_language, rule_beside, series_of_event}
use Rattle.rr_model.specs.Text.Passes.{date_beside, date_value, passes}
use Rattle.rr_model.specs.Text.Rules.{has_time}
use Rattle.rr_model.specs.Text.RuleValues.{◌>>=◌}
use Rattle.rr_model.specs.declared.refusal.Refusal.{Refusal}
use Rattle.rr_model.specs.declared.refusal.Refusal.TheVariants.{UtcMoment}
use Rattle.rr_model.specs.declared.rule.Series.{Series}
use Rattle.rr_model.specs.declared.stamp.Stamp.{Stamp}
use Rattle.rr_model.specs.declared.used.Scan.{Scan}
use Rattle.rr_model.specs.declared.used.UsedLine.{UsedLine}
use Rattle.rr_ical.proofs.BesideLemmas.{date_beside-in_years, date_value-stamp}
use Rattle.rr_rrule.proofs.BesideLemmas.{scan-valid}
use Rattle.rr_text.proofs.StepLemmas.{and_then_ok, step_keeps}
use Rattle.rr_seam.specs.Steps.{◌>=>◌, at_event, key_in_turn}
use Rattle.rr_moved.specs.Moved.{AreInYears, Shifts, no_shifts, with_moment, with_start_at}
use Rattle.rr_moved.proofs.KeyStepLemmas.{in_turn-keeps, then_ok, was_ok}
use Rattle.rr_moved.proofs.ValidLemmas.{moment_made, moved_is_valid, none_in_years, start_keeps}
use Rattle.rr_icalfile.specs.Edited.{common_start, edited_alone, edited_by, edited_with_series, first_number, instance_beside, moment_of, no_names}
use Rattle.rr_icalfile.specs.Edited.{shifts_of, stamp_on, start_beside, start_line, start_of, start_on, starts_of, unless_at_fault}
use Rattle.rr_icalfile.specs.Edited.{with_event_start, with_instance, with_instance_by, with_name, with_start}
use Rattle.rr_icalfile.specs.declared.event.Event.{Event}
use Rattle.rr_icalfile.specs.declared.event.Recurrence.{Recurrence}

-- ---- what instances take out and put in

module _ (offset : Option ℤ) (start : Stamp) where
  -- an instance that is not refused stands beside the start as a date of it does
  is_beside : (line : ℕ) (stamp : Stamp) (at : ℤ) → instance_beside offset start line stamp ≡ Ok at → date_beside offset start line stamp ≡ Ok at
  is_beside line stamp at h = by (has_time stamp.kind && (start.utc && not stamp.utc)) h
    where
      by : (b : Bool) → (if b then Err UtcMoment else date_beside offset start line stamp) ≡ Ok at → date_beside offset start line stamp ≡ Ok at
      by true e = absurd (cc)
      by false e = e

  beside-in_years : (line : ℕ) (text : List ℕ) (at : ℤ) → date_value line text >>= instance_beside offset start line ≡ Ok at → IsInYears start.kind at
  beside-in_years line text at h =
      let value = and_then_ok (date_value line text) (instance_beside offset start line) at h in
      date_beside-in_years offset start line value.0 at (date_value-stamp line text value.0 value.1) (is_beside line value.0 at value.2)

  start_on-in_years : (line : Option UsedLine) (at : ℤ) → start_on offset start line ≡ Ok at → IsInYears start.kind at
  start_on-in_years None at h = absurd (cc)
  start_on-in_years (Some line) at h = beside-in_years line.number line.value at h

  start_beside-in_years : (scan : Scan) (at : ℤ) → start_beside offset start scan ≡ Ok at → IsInYears start.kind at
  start_beside-in_years scan at h =
      let series = and_then_ok (calendar_scan offset scan) (λ (s : Series). start_on offset start (start_line scan.used)) at h in
      start_on-in_years (start_line scan.used) at series.2

  with_start-keeps : (shifts : Shifts) (event : Event) (next : Shifts) → AreInYears start.kind shifts → with_start offset start shifts event ≡ Ok next
      → AreInYears start.kind next
  with_start-keeps shifts event next v h = by event.is_cancelled h
    where
      cancelled : (stop : Option Refusal) → unless_at_fault stop shifts ≡ Ok next → AreInYears start.kind next
      cancelled None e =
          let same : shifts ≡ next = cc in
          subst (AreInYears start.kind) same v
      cancelled (Some r) e = absurd (cc)

      by : (b : Bool)
          → (if b then unless_at_fault event.scan.stop shifts
          else (start_beside offset start event.scan >>= λ at. Ok (with_start_at shifts at))) ≡ Ok next
          → AreInYears start.kind next
      by true e = cancelled event.scan.stop e
      by false e =
          let at = and_then_ok (start_beside offset start event.scan) (λ (t : ℤ). Ok (with_start_at shifts t)) next e in
          let same : with_start_at shifts at.0 ≡ next = cc in
          subst (AreInYears start.kind) same (start_keeps start.kind shifts at.0 (start_beside-in_years event.scan at.0 at.1) v)

  with_instance-keeps : (shifts : Shifts) (event : Event) (next : Shifts) → AreInYears start.kind shifts → with_instance offset start shifts event ≡ Ok next
      → AreInYears start.kind next
  with_instance-keeps shifts event next v h = by event.recurrence h
    where
      by : (r : Option Recurrence) → with_instance_by offset start shifts event r ≡ Ok next → AreInYears start.kind next
      by None e =
          let same : shifts ≡ next = cc in
          subst (AreInYears start.kind) same v
      by (Some recurrence) e =
          let at = then_ok (at_event event.first (moment_of offset start recurrence))
          (λ (t : ℤ). with_moment event.first shifts t >=> λ more. with_event_start offset start more event) next e in
          let more = then_ok (with_moment event.first shifts at.0) (λ (m : Shifts). with_event_start offset start m event) next at.2 in
          let years =
          beside-in_years recurrence.line recurrence.value at.0 (was_ok event.first (moment_of offset start recurrence) at.0 at.1) in
          with_start-keeps more.0 event next (moment_made start.kind event.first shifts more.0 at.0 years v more.1)
          (was_ok event.first (with_start offset start more.0 event) next more.2)

  shifts-in_years : (instances : List Event) (shifts : Shifts) → shifts_of offset start instances ≡ Ok shifts → AreInYears start.kind shifts
  shifts-in_years instances shifts h =
      in_turn-keeps (with_instance offset start) (AreInYears start.kind) with_instance-keeps no_shifts instances shifts
      (none_in_years start.kind) h

  starts-in_years : (instances : List Event) (shifts : Shifts) → starts_of offset start instances ≡ Ok shifts → AreInYears start.kind shifts
  starts-in_years instances shifts h =
      in_turn-keeps (with_event_start offset start) (AreInYears start.kind)
      (λ x event z v e. with_start-keeps x event z v (was_ok event.first (with_start offset start x event) z e)) no_shifts instances shifts
      (none_in_years start.kind) h

-- ---- the edited series

module _ (offset : Option ℤ) where
  scan-counts : (scan : Scan) (series : Series) → calendar_scan offset scan ≡ Ok series → series.start_counts ≡ true
  scan-counts scan series h =
      step_keeps (λ (s : Series). s.start_counts ≡ true) (passes rrule_language (rule_beside offset) offset scan) series_of_event series (λ event is. refl) h

  with_series-valid : (event : Event) (instances : List Event) (result : Series) → edited_with_series offset event instances ≡ Ok result → IsValidSeries result
  with_series-valid event instances result h =
      let read = then_ok (at_event event.first (calendar_scan offset event.scan)) _ result h in
      let stamp = then_ok (at_event event.first (stamp_on (start_line event.scan.used))) _ result read.2 in
      let shifts = then_ok (shifts_of offset (start_of read.0 stamp.0) instances) _ result stamp.2 in
      let is = was_ok event.first (calendar_scan offset event.scan) read.0 read.1 in
      moved_is_valid.edited event.is_cancelled event.first read.0 shifts.0 result (scan-valid offset event.scan read.0 is)
      (scan-counts event.scan read.0 is) (shifts-in_years offset (start_of read.0 stamp.0) instances shifts.0 shifts.1) shifts.2

  alone-valid : (instances : List Event) (result : Series) → edited_alone offset instances ≡ Ok result → IsValidSeries result
  alone-valid instances result h =
      let start = common_start instances in
      let names = then_ok (key_in_turn with_name no_names instances) _ result h in
      let shifts = then_ok (starts_of offset start instances) _ result names.2 in
      let years = starts-in_years offset start instances shifts.0 shifts.1 in
      moved_is_valid.starts (first_number instances) start.kind shifts.0 result years shifts.2

  pub edited-valid : (series : Option Event) (instances : List Event) (result : Series) → edited_by offset series instances ≡ Ok result → IsValidSeries result
  edited-valid None instances result h = alone-valid instances result h
  edited-valid (Some event) instances result h = with_series-valid event instances result h
