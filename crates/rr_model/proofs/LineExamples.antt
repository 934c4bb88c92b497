-- Worked texts: their lines, and the used lines of their event.
use Rattle.std.proofs.Common.{◌≡◌, ℕ, List, [], ◌∷◌, true, false, refl}
use Rattle.std.specs.Prelude.{codes, None, Some}
use Rattle.rr_model.specs.Text.Lines.{physical_lines, unfolded_lines, without_mark}
use Rattle.rr_model.specs.Text.UsedLines.{value_of_line, line_kind}
use Rattle.rr_model.specs.Text.Event.{left_by, event_scan, used_line}
use Rattle.rr_model.specs.declared.line.Line.{Line}
use Rattle.rr_model.specs.declared.refusal.Refusal.TheVariants.{BadLine, SeveralEvents}
use Rattle.rr_model.specs.declared.used.LineName.TheVariants.{Dtstart, Rrule, Exdate, Exrule}
use Rattle.rr_model.specs.declared.used.UsedLine.{UsedLine}
use Rattle.rr_model.specs.declared.used.Scan.{Scan}

abbrev line : ℕ → List ℕ → Line
line number text = record { number = number; text = text }

physical :
    (physical_lines (codes "") ≡ [])
    × (physical_lines (codes "\n") ≡ [] ∷ [])
    × (physical_lines (codes "a\r\nb\n\nc") ≡ codes "a" ∷ codes "b" ∷ [] ∷ codes "c" ∷ [])
    × (physical_lines (codes "a\r") ≡ codes "a\r" ∷ [])
    × (physical_lines (codes "a\r\r\n\r") ≡ codes "a\r" ∷ codes "\r" ∷ [])
unfolding physical_lines
physical = (refl, refl, refl, refl, refl)

unfolded :
    (unfolded_lines false (codes "a\r\n b\n\tc\nd") ≡ line 1 (codes "abc") ∷ line 4 (codes "d") ∷ [])
    × (unfolded_lines true (codes "a\r\n b\n\tc\nd") ≡ line 1 (codes "a b\tc") ∷ line 4 (codes "d") ∷ [])
    × (unfolded_lines false (codes " a\n b") ≡ line 1 (codes " ab") ∷ [])
    × (unfolded_lines false (codes "\n b\nc") ≡ line 1 (codes "b") ∷ line 3 (codes "c") ∷ [])
    × (unfolded_lines true (codes "\n b\nc") ≡ line 1 (codes " b") ∷ line 3 (codes "c") ∷ [])
    × (without_mark (239 ∷ 187 ∷ 191 ∷ 239 ∷ 187 ∷ 191 ∷ 65 ∷ []) ≡ 239 ∷ 187 ∷ 191 ∷ 65 ∷ [])
    × (without_mark (239 ∷ 187 ∷ []) ≡ 239 ∷ 187 ∷ [])
unfolding physical_lines unfolded_lines
unfolded = (refl, refl, refl, refl, refl, refl, refl)

values :
    (value_of_line (codes "DTSTART;TZID=Europe/Berlin: 20240101\t") ≡ Some (codes "20240101"))
    × (value_of_line (codes "DTSTART;X=\"a:b\";Y=\"c\":20240101") ≡ Some (codes "20240101"))
    × (value_of_line (codes "DTSTART;X=\"a:20240101") ≡ Some (codes "20240101"))
    × (value_of_line (codes "DTSTART;X=\"a:b\"") ≡ None)
    × (value_of_line (codes "DTSTART;X=\"a\"b\":c\":d") ≡ Some (codes "d"))
    × (value_of_line (codes "DTSTART") ≡ None)
    × (value_of_line (codes "DTSTART :x") ≡ None)
    × (value_of_line (codes "DTSTART:") ≡ Some [])
unfolding value_of_line
values = (refl, refl, refl, refl, refl, refl, refl, refl)

-- a calendar file as a usual program writes it
unfoldable pub calendar_file : List ℕ
calendar_file = codes "BEGIN:VCALENDAR\r\nVERSION:2.0\r\nBEGIN:VTIMEZONE\r\nTZID:Europe/Berlin\r\nBEGIN:STANDARD\r\nDTSTART:19701025T030000\r\nRRULE:FREQ=YEARLY;BYMONTH=10;BYDAY=-1SU\r\nEND:STANDARD\r\nEND:VTIMEZONE\r\nBEGIN:VEVENT\r\nDTSTART;TZID=Europe/Berlin:20240103T100000\r\nRRULE:FREQ=WEEKLY;WKST=MO;COUNT=4;\r\n BYDAY=WE\r\nEXDATE;TZID=Europe/Berlin:20240110T100000\r\nSUMMARY:Status\r\nBEGIN:VALARM\r\nTRIGGER:-P0DT0H10M0S\r\nEND:VALARM\r\nEND:VEVENT\r\nEND:VCALENDAR\r\n"

abbrev used : List UsedLine → Scan
used lines = record { used = lines; stop = None }

scans :
    (event_scan false calendar_file
    ≡ used (used_line 11 Dtstart (codes "20240103T100000") ∷ used_line 12 Rrule (codes "FREQ=WEEKLY;WKST=MO;COUNT=4;BYDAY=WE") ∷ used_line 14 Exdate
    (codes "20240110T100000") ∷ []))
    × (event_scan false (codes "END:VEVENT") ≡ record { used = []; stop = Some (BadLine 1) })
    × (event_scan false (codes "BEGIN:VEVENT\nDTSTART:x\nEND:VEVENT\nbegin:vevent\nEND:VEVENT\n")
    ≡ record { used = used_line 2 Dtstart (codes "x") ∷ []; stop = Some SeveralEvents })
    × (event_scan false (codes "BEGIN:VEVENT\nDTSTART:x\n\n\n") ≡ record { used = used_line 2 Dtstart (codes "x") ∷ []; stop = Some (BadLine 4) })
    × (event_scan false (codes "BEGIN:VEVENT\nEND:VALARM\n") ≡ record { used = []; stop = Some (BadLine 2) })
    × (event_scan false (codes "dtstart:x\nrrule:y\nrrules:z\n\nEXRULE;a:b\r\n")
    ≡ used (used_line 1 Dtstart (codes "x") ∷ used_line 2 Rrule (codes "y") ∷ used_line 5 Exrule (codes "b") ∷ []))
    × (event_scan false (codes "DTSTART:x\nRDATE\n") ≡ record { used = used_line 1 Dtstart (codes "x") ∷ []; stop = Some (BadLine 2) })
    × (event_scan false (codes "DTSTART:x\nBEGIN:VEVENT\nEND:VEVENT\n") ≡ used [])
unfolding calendar_file physical_lines unfolded_lines value_of_line line_kind left_by event_scan
scans = (refl, refl, refl, refl, refl, refl, refl, refl)
