-- The used lines of the one event of a text (RFC 5545, sections 3.4, 3.6 and 3.6.1).
use Rattle.std.specs.Prelude.{ℕ, Bool, false, not, ◌&&◌, ◌||◌, if◌then◌else◌, List, [], ◌∷◌, length, codes, Option, None, Some, ok_or, Result, Ok, Err}
use Rattle.std.specs.List.{list_any, cons_option}
use Rattle.std.specs.Str.{str_eq_ignore_ascii_case}
use Rattle.rr_model.specs.Rule.Validity.{is_absent}
use Rattle.rr_model.specs.Text.Lines.{physical_lines, unfolded_lines}
use Rattle.rr_model.specs.Text.UsedLines.{is_named, value_of_line, line_kind}
use Rattle.rr_model.specs.Text.RuleValues.{◌>>=◌}
use Rattle.rr_model.specs.declared.line.Line.{Line}
use Rattle.rr_model.specs.declared.refusal.Refusal.{Refusal}
use Rattle.rr_model.specs.declared.refusal.Refusal.TheVariants.{BadLine, SeveralEvents}
use Rattle.rr_model.specs.declared.used.LineKind.{LineKind}
use Rattle.rr_model.specs.declared.used.LineKind.TheVariants.{Begin, End, Property, Other}
use Rattle.rr_model.specs.declared.used.LineName.{LineName}
use Rattle.rr_model.specs.declared.used.UsedLine.{UsedLine}
use Rattle.rr_model.specs.declared.used.Scan.{Scan}

-- the components that are open, the innermost first, and whether an event was begun
pub record Components : Type 0 where
  pub open_names : List (List ℕ)
  pub had_event : Bool

-- no component is open
abbrev pub no_components : Components
no_components = record { open_names = []; had_event = false }

-- names of components compare in either case
abbrev pub is_event : List ℕ → Bool
is_event name = str_eq_ignore_ascii_case name (codes "VEVENT")

-- the innermost component is the event
abbrev pub is_in_event : List (List ℕ) → Bool
is_in_event [] = false
is_in_event (name ∷ names) = is_event name

-- a component is opened; a second event is refused
abbrev pub after_begin : Components → List ℕ → Result Components Refusal
after_begin components name =
    if is_event name && components.had_event then Err SeveralEvents
    else Ok (record { open_names = name ∷ components.open_names; had_event = is_event name || components.had_event })

-- the innermost component is closed, if it has this name
abbrev pub after_end : ℕ → Components → List (List ℕ) → List ℕ → Result Components Refusal
after_end number components [] name = Err (BadLine number)
after_end number components (innermost ∷ outer) name =
    if str_eq_ignore_ascii_case name innermost then Ok (record { open_names = outer; had_event = components.had_event }) else Err (BadLine number)

-- the used line of a number, a name and a value
abbrev pub used_line : ℕ → LineName → List ℕ → UsedLine
used_line number name value = record { number = number; name = name; value = value }

-- what is known after a line: the components that are open then, and the used line that it is, if it is one
pub record Left : Type 0 where
  pub components : Components
  pub used : Option UsedLine

-- the record of the components after a line and of the used line that it is, if it is one
abbrev pub left_with : Components → Option UsedLine → Left
left_with components used = record { components = components; used = used }

-- the value of a line that has to have one
abbrev pub value_on : ℕ → List ℕ → Result (List ℕ) Refusal
value_on number text = ok_or (value_of_line text) (BadLine number)

-- what is known after a line of this kind, or its refusal; if the text has no component at all, every line is the event's
abbrev pub left_at : Bool → Components → ℕ → LineKind → List ℕ → Result Left Refusal
left_at is_bare components number Begin text = do
  name ← value_on number text
  after ← after_begin components name
  Ok (left_with after None)
left_at is_bare components number End text = do
  name ← value_on number text
  after ← after_end number components components.open_names name
  Ok (left_with after None)
left_at is_bare components number (Property name) text =
    if is_bare || is_in_event components.open_names then (value_on number text >>= λ value. Ok (left_with components (Some (used_line number name value))))
    else Ok (left_with components None)
left_at is_bare components number Other text = Ok (left_with components None)

-- what is known after a line, with these components open before it, or its refusal
unfoldable pub left_by : Bool → Components → Line → Result Left Refusal
left_by is_bare components line = left_at is_bare components line.number (line_kind line.text) line.text

-- a component that is open at the end of the text is refused at the last physical line
abbrev pub stop_at_end : ℕ → Components → Option Refusal
stop_at_end last components = if is_absent components.open_names then None else Some (BadLine last)

-- the scan with one more used line before its own, if there is one
abbrev pub after_used : Option UsedLine → Scan → Scan
after_used used scan = record { used = cons_option used scan.used; stop = scan.stop }

-- the used line that a line is, if it is one, and then the scan of the lines after it; a refusal stops the scan
abbrev pub scan_from : Result Left Refusal → (Components → Scan) → Scan
scan_from (Err refusal) more = record { used = []; stop = Some refusal }
scan_from (Ok step) more = after_used step.used (more step.components)

-- the used lines from here on, up to the first fault of the components
abbrev pub scan_of : Bool → ℕ → Components → List Line → Scan
scan_of is_bare last components [] = record { used = []; stop = stop_at_end last components }
scan_of is_bare last components (line ∷ lines) = scan_from (left_by is_bare components line) (λ after. scan_of is_bare last after lines)

-- no line has the name BEGIN
abbrev pub is_bare_text : List Line → Bool
is_bare_text lines = not (list_any (λ line. is_named line.text (codes "BEGIN")) lines)

-- The used lines of the one event, or of a text without components, and the first fault of the components.
unfoldable pub event_scan : Bool → List ℕ → Scan
event_scan keeps_blank bytes =
    scan_of (is_bare_text (unfolded_lines keeps_blank bytes)) (length (physical_lines bytes)) no_components (unfolded_lines keeps_blank bytes)
