-- The lines of an event written again, each on as many physical lines as it had (RFC 5545, section 3.1).
use Rattle.std.specs.Prelude.{◌≡◌, ℕ, zero, suc, ◌-◌, Bool, true, false, ◌&&◌, if◌then◌else◌, ℤ, List, [], ◌∷◌, ◌++◌, bytes_eq, codes, length, Result, Ok, Err, ⊤}
use Rattle.rr_model.specs.Text.Event.{is_in_event}
use Rattle.rr_model.specs.Text.Lines.{physical_lines}
use Rattle.rr_model.specs.declared.line.Line.{Line}
use Rattle.rr_model.specs.declared.refusal.Fault.{Fault}
use Rattle.rr_model.specs.declared.refusal.Fault.TheVariants.{Refused, NoMemory}
use Rattle.rr_model.specs.declared.refusal.Refusal.{Refusal}
use Rattle.rr_ical.specs.Components.{open_after}
use Rattle.rr_events.specs.RawLines.{RawLine, bytes_of}
use Rattle.rr_zone.specs.Lines.{local_line}
use Rattle.rr_zone.specs.declared.clock.LocalTime.{LocalTime}

-- physical lines with a blank alone, which continue the line before them by nothing
abbrev pub blank_lines : ℕ → List ℕ
blank_lines zero = []
blank_lines (suc n) = codes "\n " ++ blank_lines n

-- a text on one physical line, and `blanks` lines with a blank alone
abbrev pub on_lines : List ℕ → ℕ → List ℕ
on_lines text blanks = (text ++ blank_lines blanks) ++ codes "\n"

-- a line's new text in place of its old one: the line's bytes if it is the same, otherwise as many physical lines as these bytes have
abbrev pub rewritten : List ℕ → List ℕ → List ℕ → ℕ → List ℕ
rewritten new text bytes blanks = if bytes_eq new text then bytes else on_lines new blanks

-- a line of an event: if it is the event's own, and not of a component within it, as this says
abbrev pub local_raw : (List ℕ → List ℕ) → Bool → RawLine → List ℕ
local_raw line false raw = raw.bytes
local_raw line true raw = rewritten (line raw.line.text) raw.line.text raw.bytes (length (physical_lines raw.bytes) - 1)

-- a line and those that follow it, by the components that are open after it; behind a fault of these all stays
abbrev pub local_step : (List ℕ → List ℕ) → Bool → RawLine → List RawLine → Result (List (List ℕ)) Refusal → (List (List ℕ) → List ℕ) → List ℕ
local_step line was_in_event raw raws (Err refusal) more = bytes_of (raw ∷ raws)
local_step line was_in_event raw raws (Ok after) more = local_raw line (was_in_event && is_in_event after) raw ++ more after

-- the bytes of the lines of an event, its own ones as this says of their texts
abbrev pub local_lines : (List ℕ → List ℕ) → List (List ℕ) → List RawLine → List ℕ
local_lines line names [] = []
local_lines line names (raw ∷ raws) =
    local_step line (is_in_event names) raw raws (open_after names raw.line) (λ after. local_lines line after raws)

-- ---- one line more

-- the components that are open after a line, and whether it is the event's own, or the fault of the components
abbrev pub IsOwnStep : List (List ℕ) → Line → List (List ℕ) → Result Bool Fault → Type 0
IsOwnStep old line new (Ok is_own) = (open_after old line ≡ Ok new) × (is_own ≡ (is_in_event old && is_in_event new))
IsOwnStep old line new (Err (Refused refusal)) = open_after old line ≡ Err refusal
IsOwnStep old line new (Err NoMemory) = ⊤
