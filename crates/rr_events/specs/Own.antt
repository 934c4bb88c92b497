-- What stands directly in an event (RFC 5545, section 3.6.1).
use Rattle.std.specs.Prelude.{ℕ, Bool, ◌&&◌, if◌then◌else◌, List, [], ◌∷◌, Option, None, Some, option_and_then, Result, Ok, Err}
use Rattle.rr_model.specs.Text.Event.{is_in_event}
use Rattle.rr_model.specs.Text.UsedLines.{is_named, value_of_line}
use Rattle.rr_model.specs.declared.line.Line.{Line}
use Rattle.rr_model.specs.declared.refusal.Refusal.{Refusal}
use Rattle.rr_ical.specs.Components.{open_after}

-- a line, if it is the event's own, and then the lines that are its own after it
abbrev pub own_line : Bool → Line → Result (List (List ℕ)) Refusal → (List (List ℕ) → List Line) → List Line
own_line is_own line (Err refusal) more = []
own_line is_own line (Ok after) more = if is_own && is_in_event after then line ∷ more after else more after

-- the lines directly within the event, without those that open and close components
abbrev pub own_lines : List (List ℕ) → List Line → List Line
own_lines names [] = []
own_lines names (line ∷ lines) = own_line (is_in_event names) line (open_after names line) (λ after. own_lines after lines)

-- the first line of an event that has this name
abbrev pub first_named : List ℕ → List Line → Option Line
first_named word [] = None
first_named word (line ∷ lines) = if is_named line.text word then Some line else first_named word lines

-- the value of a line; the empty text if it has none
abbrev pub value_or_empty : Option (List ℕ) → List ℕ
value_or_empty None = []
value_or_empty (Some value) = value

-- the value of the first line of this name, the empty text if there is none
abbrev pub first_value : List ℕ → List Line → List ℕ
first_value word lines = value_or_empty (option_and_then (λ (line : Line). value_of_line line.text) (first_named word lines))
