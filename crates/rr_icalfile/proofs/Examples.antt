-- Worked events of a small text, and a worked date beside moments.
use Rattle.std.proofs.Common.{◌≡◌, refl, true, false, ℕ, pos, List, [], ◌∷◌}
use Rattle.std.specs.Prelude.{Result, Ok, Err, None, codes, map}
use Rattle.std.specs.List.{list_any}
use Rattle.rr_model.specs.Calendar.{day_number, days_of_months, first_day_of_year}
use Rattle.rr_rule_parts.specs.Calendars.{calendar_scan}
use Rattle.rr_model.specs.Text.Event.{used_line}
use Rattle.rr_model.specs.Text.Lines as L
use Rattle.rr_model.specs.Text.Moments.{basic, basic_date, basic_moment, basic_time, is_digits, number_at}
use Rattle.rr_model.specs.Text.UsedLines as U
use Rattle.rr_model.specs.declared.kind.Kind.TheVariants.{Moments}
use Rattle.rr_model.specs.declared.line.Line.{Line}
use Rattle.rr_model.specs.declared.refusal.Refusal.{Refusal}
use Rattle.rr_model.specs.declared.refusal.Refusal.TheVariants.{BadLine, MixedKinds}
use Rattle.rr_model.specs.declared.used.LineName.TheVariants.{Dtstart, Exdate, Rdate}
use Rattle.rr_model.specs.declared.used.Scan.{Scan}
use Rattle.rr_ical.specs.Components as C
use Rattle.rr_events.specs.Events as E
use Rattle.rr_events.specs.Events.{events_of}
use Rattle.rr_icalfile.specs.Days.{is_other_time, scan_with_time, time_on}
use Rattle.rr_icalfile.specs.Edited.{start_line}
use Rattle.rr_icalfile.specs.Keys.{key_of}
use Rattle.rr_seam.specs.declared.key.Key.{Key}
use Rattle.rr_seam.specs.declared.key.Key.TheVariants as key

-- a calendar with a folded BEGIN, an alarm with a UID of its own, and a second event
text : List ℕ
text = codes "BEGIN:VCALENDAR\nBEGIN:VE\n VENT\nBEGIN:VALARM\nUID:b\nEND:VALARM\nuid:a\nEND:VEVENT\nBEGIN:VEVENT\nEND:VEVENT\nEND:VCALENDAR\n"

-- the numbers of the lines of each event
numbers_in : Result (List (List Line)) Refusal → List (List ℕ)
numbers_in (Ok events) = map (λ event. map (λ (line : Line). line.number) event) events
numbers_in (Err refusal) = []

-- the key of each event
keys_in : Result (List (List Line)) Refusal → List Key
keys_in (Ok events) = map key_of events
keys_in (Err refusal) = []

numbers : numbers_in (events_of text) ≡ (2 ∷ 4 ∷ 5 ∷ 6 ∷ 7 ∷ 8 ∷ []) ∷ (9 ∷ 10 ∷ []) ∷ []
unfolding numbers_in E.events_of C.open_after L.unfolded_lines L.physical_lines U.line_kind U.value_of_line text
numbers = refl

keys : keys_in (events_of text) ≡ key.Uid (codes "a") ∷ key.Line 9 ∷ []
unfolding keys_in E.events_of C.open_after L.unfolded_lines L.physical_lines U.line_kind U.value_of_line text
keys = refl

-- a text that was cut off is refused as a whole
cut_off : events_of (codes "BEGIN:VCALENDAR\nBEGIN:VEVENT\nEND:VEVENT\n") ≡ Err (BadLine 3)
unfolding E.events_of C.open_after L.unfolded_lines L.physical_lines U.line_kind U.value_of_line text
cut_off = refl

-- ---- a date beside moments

-- a start, an added moment, and a date and a moment that are taken out
scan : Scan
scan = record {
  used =
      used_line 1 Dtstart (codes "20240401T090000") ∷ used_line 2 Rdate (codes "20240408T090000")
      ∷ used_line 3 Exdate (codes "20240408, 20240415T090000") ∷ [];
  stop = None;
}

-- the date is refused as it stands, and read with the time of day of the start
dates :
    (time_on (start_line scan.used) ≡ codes "T090000")
    × (calendar_scan None scan ≡ Err (MixedKinds 3))
    × (calendar_scan None (scan_with_time (codes "T090000") scan)
    ≡ Ok (record {
      kind = Moments;
      start = pos 1_711_962_000;
      start_counts = true;
      rules = [];
      excluded = [];
      plus = pos 1_712_566_800 ∷ [];
      minus = pos 1_712_566_800 ∷ pos 1_713_171_600 ∷ [];
    }))
unfolding day_number first_day_of_year days_of_months is_digits number_at basic basic_date basic_time basic_moment scan
dates = (refl, refl, refl)

-- the day of a date with an RDATE at another time of day than the start is unclear, and that of one with an RDATE at the same is not
unclear_days :
    (list_any (is_other_time (pos 1_711_962_000) (pos 19_821)) (pos 1_712_570_400 ∷ []) ≡ true)
    × (list_any (is_other_time (pos 1_711_962_000) (pos 19_821)) (pos 1_712_566_800 ∷ []) ≡ false)
    × (list_any (is_other_time (pos 1_711_962_000) (pos 19_822)) (pos 1_712_570_400 ∷ []) ≡ false)
unclear_days = (refl, refl, refl)
