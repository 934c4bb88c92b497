-- The components that are open after a line (RFC 5545, section 3.6).
use Rattle.std.specs.Prelude.{ℕ, Bool, List, ◌∷◌, Result, Ok}
use Rattle.std.specs.List.{list_any}
use Rattle.rr_model.specs.Text.Event.{after_end, is_event, no_components, value_on}
use Rattle.rr_model.specs.Text.RuleValues.{◌>>=◌}
use Rattle.rr_model.specs.Text.UsedLines.{line_kind}
use Rattle.rr_model.specs.declared.line.Line.{Line}
use Rattle.rr_model.specs.declared.refusal.Refusal.{Refusal}
use Rattle.rr_model.specs.declared.used.LineKind.{LineKind}
use Rattle.rr_model.specs.declared.used.LineKind.TheVariants.{Begin, End, Property, Other}

-- the components that are open after the end of one of this name
abbrev pub closed_by : ℕ → List (List ℕ) → List ℕ → Result (List (List ℕ)) Refusal
closed_by number names name = after_end number no_components names name >>= λ after. Ok after.open_names

-- the components that are open after a line, by its kind, the innermost first
abbrev pub open_at : List (List ℕ) → ℕ → LineKind → List ℕ → Result (List (List ℕ)) Refusal
open_at names number Begin text = value_on number text >>= λ name. Ok (name ∷ names)
open_at names number End text = value_on number text >>= λ name. closed_by number names name
open_at names number (Property name) text = Ok names
open_at names number Other text = Ok names

-- the components that are open after a line
unfoldable pub open_after : List (List ℕ) → Line → Result (List (List ℕ)) Refusal
open_after names line = open_at names line.number (line_kind line.text) line.text

-- a place lies within an event, directly or deeper
abbrev pub is_within_event : List (List ℕ) → Bool
is_within_event names = list_any is_event names
