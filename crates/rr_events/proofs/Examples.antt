-- Worked events of a small text.
use Rattle.std.proofs.Common.{◌≡◌, refl, ℕ, List, [], ◌∷◌}
use Rattle.std.specs.Prelude.{Result, Ok, Err, codes, map}
use Rattle.rr_model.specs.Text.Lines as L
use Rattle.rr_model.specs.Text.UsedLines as U
use Rattle.rr_model.specs.declared.line.Line.{Line}
use Rattle.rr_model.specs.declared.refusal.Refusal.{Refusal}
use Rattle.rr_model.specs.declared.refusal.Refusal.TheVariants.{BadLine}
use Rattle.rr_ical.specs.Components as C
use Rattle.rr_events.specs.Events as E
use Rattle.rr_events.specs.Events.{events_of}
use Rattle.rr_events.specs.Own.{first_value, own_lines}

-- a calendar with a folded BEGIN, an alarm with a UID of its own, and a second event
text : List ℕ
text = codes "BEGIN:VCALENDAR\nBEGIN:VE\n VENT\nBEGIN:VALARM\nUID:b\nEND:VALARM\nuid:a\nEND:VEVENT\nBEGIN:VEVENT\nEND:VEVENT\nEND:VCALENDAR\n"

-- the numbers of the lines of each event
numbers_in : Result (List (List Line)) Refusal → List (List ℕ)
numbers_in (Ok events) = map (λ event. map (λ (line : Line). line.number) event) events
numbers_in (Err refusal) = []

-- the UID of each event
uids_in : Result (List (List Line)) Refusal → List (List ℕ)
uids_in (Ok events) = map (λ event. first_value (codes "UID") (own_lines [] event)) events
uids_in (Err refusal) = []

numbers : numbers_in (events_of text) ≡ (2 ∷ 4 ∷ 5 ∷ 6 ∷ 7 ∷ 8 ∷ []) ∷ (9 ∷ 10 ∷ []) ∷ []
unfolding text numbers_in E.events_of C.open_after L.physical_lines U.line_kind U.value_of_line
numbers = refl

uids : uids_in (events_of text) ≡ codes "a" ∷ [] ∷ []
unfolding text uids_in E.events_of C.open_after L.physical_lines U.line_kind U.value_of_line
uids = refl

-- an event within an event is a part of it
nested : numbers_in (events_of (codes "BEGIN:VEVENT\nBEGIN:vevent\nEND:VEVENT\nEND:VEVENT")) ≡ (1 ∷ 2 ∷ 3 ∷ 4 ∷ []) ∷ []
unfolding numbers_in E.events_of C.open_after L.physical_lines U.line_kind U.value_of_line
nested = refl

-- a text that was cut off is refused as a whole
cut_off : events_of (codes "BEGIN:VCALENDAR\nBEGIN:VEVENT\nEND:VEVENT\n") ≡ Err (BadLine 3)
unfolding E.events_of C.open_after L.physical_lines U.line_kind U.value_of_line
cut_off = refl

-- so is one that closes what is not open
closed : events_of (codes "BEGIN:VEVENT\nEND:VEVENT\nEND:VEVENT") ≡ Err (BadLine 3)
unfolding E.events_of C.open_after L.physical_lines U.line_kind U.value_of_line
closed = refl
